-- A full block in two halves.
use Rattle.std.proofs.Common.{◌≡◌, ℕ, zero, suc, ◌+◌, ◌-◌, ◌*◌, min, max, ◌<◌, ◌≤◌, List, [], ◌∷◌, ◌++◌, Option, None, Some, length, get_or, take, drop, refl, sym, ap, ◌∙◌, arith, append_assoc, length-append, subst, vec_len, vec_capacity}
use Rattle.std.specs.List.{AllByRecursion, insert}
use Rattle.std.specs.Global.{Vec}
use Rattle.std.proofs.Math.ListN.{set}
use Rattle.std.proofs.lemmas.List.{append-nil, length-take, length-drop, length-set}
use Rattle.hy_value.specs.declared.change.Change.{Change}
use Rattle.hy_notes.specs.declared.blocks.Blocks.{Blocks}
use Rattle.hy_notes.specs.Blocks.{joined, notes_at, notes_before, notes_behind, next_block, IsWithin, IsLater, IsBlank, AreBlocks}
use Rattle.hy_notes.proofs.Joined.{all_get, all_set, all_insert, length_set, length_insert}
use Rattle.hy_notes.proofs.Edits.{put_low, put_high}

pub take_more : (xs : List (Vec Change)) (k : ℕ) (d : Vec Change) → k < length xs → joined (take (suc k) xs) ≡ joined (take k xs) ++ (get_or xs k d).items
take_more [] k d l = absurd (omega (arith, l))
take_more (x ∷ xs) zero d l = append-nil x.items
take_more (x ∷ xs) (suc k) d l =
    ap (λ (ns : List Change). x.items ++ ns) (take_more xs k d (omega (arith, l))) ∙ sym (append_assoc x.items (joined (take k xs)) (get_or xs k d).items)

drop_at : (xs : List (Vec Change)) (k : ℕ) (d : Vec Change) → k < length xs → joined (drop k xs) ≡ (get_or xs k d).items ++ joined (drop (suc k) xs)
drop_at [] k d l = absurd (omega (arith, l))
drop_at (x ∷ xs) zero d l = refl
drop_at (x ∷ xs) (suc k) d l = drop_at xs k d (omega (arith, l))

-- a block that another one stands behind
pub within_too : (b : Blocks) (at : Option ℕ) → IsWithin b (Some (next_block at)) → IsWithin b at
within_too b None within = tt
within_too b (Some k) within = omega (arith, within)

before_next : (b : Blocks) (at : Option ℕ) → IsWithin b at → notes_before b (Some (next_block at)) ≡ notes_before b at ++ notes_at b at
before_next b None within = append-nil b.first.items
before_next b (Some k) within =
    ap (λ (ns : List Change). b.first.items ++ ns) (take_more b.later.items k b.first within)
    ∙ sym (append_assoc b.first.items (joined (take k b.later.items)) (get_or b.later.items k b.first).items)

behind_next : (b : Blocks) (at : Option ℕ) → IsWithin b (Some (next_block at)) → notes_behind b at ≡ notes_at b (Some (next_block at)) ++ notes_behind b (Some (next_block at))
behind_next b None within = drop_at b.later.items zero b.first within
behind_next b (Some k) within = drop_at b.later.items (suc k) b.first within

-- no block has over the most
pub most_at : (b : Blocks) (at : Option ℕ) → AreBlocks b → IsWithin b at → length (notes_at b at) ≤ 128
most_at b None s within = s.most
most_at b (Some k) s within = (all_get IsLater b.later.items k b.first s.later within).most

-- what stood in a block stands in two from then on, and a note that is put into one of them stands where it would have stood
module _ (old mid : Blocks) (at : Option ℕ) (next : IsWithin mid (Some (next_block at))) (before : notes_before mid at ≡ notes_before old at)
    (kept : notes_at mid at ≡ take 64 (notes_at old at)) (moved : notes_at mid (Some (next_block at)) ≡ drop 64 (notes_at old at))
    (behind : notes_behind mid (Some (next_block at)) ≡ notes_behind old at) (i : ℕ) (note : Change) where
  pub into_low : i ≤ 64 → i ≤ length (notes_at old at)
      → notes_before mid at ++ (insert (notes_at mid at) i note ++ notes_behind mid at) ≡ notes_before old at ++ (insert (notes_at old at) i note ++ notes_behind old at)
  into_low le within =
      ap (λ (p : List Change × (List Change × List Change)). p.0 ++ (insert p.1.0 i note ++ p.1.1))
      (λ j. (before j, (kept j, (behind_next mid at next ∙ ap (λ (q : List Change × List Change). q.0 ++ q.1) (λ l. (moved l, behind l))) j)))
      ∙ put_low (notes_before old at) (notes_at old at) (notes_behind old at) i note le within

  pub into_high : 64 ≤ i → 64 ≤ length (notes_at old at)
      → notes_before mid (Some (next_block at)) ++ (insert (notes_at mid (Some (next_block at))) (i - 64) note ++ notes_behind mid (Some (next_block at)))
      ≡ notes_before old at ++ (insert (notes_at old at) i note ++ notes_behind old at)
  into_high le full =
      ap (λ (p : List Change × (List Change × List Change)). p.0 ++ (insert p.1.0 (i - 64) note ++ p.1.1))
      (λ j. ((before_next mid at (within_too mid at next) ∙ ap (λ (q : List Change × List Change). q.0 ++ q.1) (λ l. (before l, kept l))) j, (moved j, behind j)))
      ∙ put_high (notes_before old at) (notes_at old at) (notes_behind old at) i note le full

-- the later half as a block of its own
half_later : (own : List Change) (high : Vec Change) → 128 ≤ length own → length own ≤ 128 → high.items ≡ drop 64 own → 128 ≤ vec_capacity high → IsLater high
half_later own high full most moved wide =
    let e : length high.items ≡ length own - 64 = ap length moved ∙ length-drop 64 own in
    let least' : 64 ≤ length high.items = omega (arith, e, full) in
    let most' : length high.items ≤ 128 = omega (arith, e, most) in
    record { least = least'; most = most'; wide = wide }

module _ (b : Blocks) (low high : Vec Change) (later blank : Vec (Vec Change)) (s : AreBlocks b) (wide : 128 ≤ vec_capacity high)
    (len : vec_len later ≡ vec_len b.later + 1) (room : vec_capacity b.later ≤ vec_capacity later) (blanks : AllByRecursion IsBlank blank.items)
    (blank_len : vec_len blank + 1 ≡ vec_len b.blank) (blank_room : vec_capacity blank ≡ vec_capacity b.blank) where
  enough' : b.limit ≤ max 128 ((1 + vec_len later + vec_len blank) * 64)
  enough' =
      let n : b.limit ≤ max 128 ((1 + vec_len b.later + vec_len b.blank) * 64) = s.enough in
      omega (arith, n, len, blank_len)

  room' : vec_len later + vec_len blank ≤ vec_capacity later
  room' = omega (arith, s.room, len, blank_len, room)

  blank_room' : vec_len later + vec_len blank ≤ vec_capacity blank
  blank_room' = omega (arith, s.blank_room, len, blank_len, blank_room)

  pub first_halved : 128 ≤ length b.first.items → low.items ≡ take 64 b.first.items → vec_capacity low ≡ vec_capacity b.first → high.items ≡ drop 64 b.first.items
      → later.items ≡ insert b.later.items 0 high → AreBlocks (record { first = low; later = later; blank = blank; count = b.count; limit = b.limit })
  first_halved full kept same moved items =
      let most : length b.first.items ≤ 128 = s.most in
      let was : min b.limit 128 ≤ vec_capacity b.first = s.wide in
      let e : length low.items ≡ min 64 (length b.first.items) = ap length kept ∙ length-take 64 b.first.items in
      let f : length high.items ≡ length b.first.items - 64 = ap length moved ∙ length-drop 64 b.first.items in
      let g : length (joined later.items) ≡ length (joined b.later.items) + length high.items =
      ap (λ (xs : List (Vec Change)). length (joined xs)) items ∙ length_insert b.later.items 0 high (omega arith) in
      let p : length (low.items ++ joined later.items) ≡ length low.items + length (joined later.items) = length-append low.items (joined later.items) in
      let q : length (b.first.items ++ joined b.later.items) ≡ length b.first.items + length (joined b.later.items) = length-append b.first.items (joined b.later.items) in
      let r : b.count ≡ length (b.first.items ++ joined b.later.items) = s.count in
      let sum : b.count ≡ length (low.items ++ joined later.items) = omega (arith, e, f, g, p, q, r, full) in
      let most' : length low.items ≤ 128 = omega (arith, e) in
      let wide' : min b.limit 128 ≤ vec_capacity low = omega (arith, was, same) in
      record {
        most = most';
        wide = wide';
        later = subst (AllByRecursion IsLater) (sym items) (all_insert IsLater b.later.items 0 high (half_later b.first.items high full most moved wide) s.later);
        blank = blanks;
        count = sum;
        within = s.within;
        enough = enough';
        room = room';
        blank_room = blank_room';
      }

  pub later_halved : (k : ℕ) → k < length b.later.items → 128 ≤ length (get_or b.later.items k b.first).items → low.items ≡ take 64 (get_or b.later.items k b.first).items
      → vec_capacity low ≡ vec_capacity (get_or b.later.items k b.first) → high.items ≡ drop 64 (get_or b.later.items k b.first).items
      → later.items ≡ insert (set b.later.items k low) (suc k) high → AreBlocks (record { first = b.first; later = later; blank = blank; count = b.count; limit = b.limit })
  later_halved k within full kept same moved items =
      let own = get_or b.later.items k b.first in
      let was : IsLater own = all_get IsLater b.later.items k b.first s.later within in
      let most : length own.items ≤ 128 = was.most in
      let wide_own : 128 ≤ vec_capacity own = was.wide in
      let e : length low.items ≡ min 64 (length own.items) = ap length kept ∙ length-take 64 own.items in
      let f : length high.items ≡ length own.items - 64 = ap length moved ∙ length-drop 64 own.items in
      let g : length (joined later.items) ≡ length (joined (set b.later.items k low)) + length high.items =
      ap (λ (xs : List (Vec Change)). length (joined xs)) items ∙ length_insert (set b.later.items k low) (suc k) high (let n = length-set b.later.items k low in omega (arith, n, within)) in
      let h : length (joined (set b.later.items k low)) + length own.items ≡ length (joined b.later.items) + length low.items = length_set b.later.items k low b.first within in
      let p : length (b.first.items ++ joined later.items) ≡ length b.first.items + length (joined later.items) = length-append b.first.items (joined later.items) in
      let q : length (b.first.items ++ joined b.later.items) ≡ length b.first.items + length (joined b.later.items) = length-append b.first.items (joined b.later.items) in
      let r : b.count ≡ length (b.first.items ++ joined b.later.items) = s.count in
      let sum : b.count ≡ length (b.first.items ++ joined later.items) = omega (arith, e, f, g, h, p, q, r, full) in
      let least' : 64 ≤ length low.items = omega (arith, e, full) in
      let most' : length low.items ≤ 128 = omega (arith, e) in
      let wide' : 128 ≤ vec_capacity low = omega (arith, wide_own, same) in
      let is : IsLater low = record { least = least'; most = most'; wide = wide' } in
      record {
        most = s.most;
        wide = s.wide;
        later = subst (AllByRecursion IsLater) (sym items)
            (all_insert IsLater (set b.later.items k low) (suc k) high (half_later own.items high full most moved wide) (all_set IsLater b.later.items k low is s.later));
        blank = blanks;
        count = sum;
        within = s.within;
        enough = enough';
        room = room';
        blank_room = blank_room';
      }
