-- What a change of one block makes of all of them.
use Rattle.std.proofs.Common.{◌≡◌, ℕ, zero, suc, ◌+◌, ◌-◌, ◌*◌, min, max, ◌<◌, ◌≤◌, List, [], ◌∷◌, ◌++◌, Option, None, Some, length, get_or, take, drop, refl, sym, ap, ◌∙◌, arith, append_assoc, length-append, vec_len, vec_capacity}
use Rattle.std.specs.List.{insert}
use Rattle.std.specs.Vec.{with_item}
use Rattle.std.specs.Global.{Vec}
use Rattle.std.proofs.Math.ListN.{set}
use Rattle.std.proofs.lemmas.List.{take-append-drop}
use Rattle.std.proofs.lemmas.List.Edits.{insert-append_left, insert-append_right}
use Rattle.hy_value.specs.declared.change.Change.{Change}
use Rattle.hy_notes.specs.declared.blocks.Blocks.{Blocks}
use Rattle.hy_notes.specs.Blocks.{joined, notes_in, notes_at, notes_before, notes_behind, IsWithin, IsLater, AreBlocks}
use Rattle.hy_notes.proofs.Joined.{all_set, joined_at, joined_set, length_set, least_in, full_in}

-- all notes, as those of a block between the others
pub all_at : (b : Blocks) (at : Option ℕ) → IsWithin b at → notes_in b ≡ notes_before b at ++ (notes_at b at ++ notes_behind b at)
all_at b None within = refl
all_at b (Some k) within =
    ap (λ (ns : List Change). b.first.items ++ ns) (joined_at b.later.items k b.first within)
    ∙ sym (append_assoc b.first.items (joined (take k b.later.items)) ((get_or b.later.items k b.first).items ++ joined (drop (suc k) b.later.items)))

-- another block in the place of one
pub later_notes : (b : Blocks) (k : ℕ) (y : Vec Change) (own : List Change) → k < length b.later.items → y.items ≡ own
    → b.first.items ++ joined (set b.later.items k y) ≡ notes_before b (Some k) ++ (own ++ notes_behind b (Some k))
later_notes b k y own l e =
    ap (λ (ns : List Change). b.first.items ++ ns) (joined_set b.later.items k y l)
    ∙ (sym (append_assoc b.first.items (joined (take k b.later.items)) (y.items ++ joined (drop (suc k) b.later.items)))
    ∙ ap (λ (ns : List Change). (b.first.items ++ joined (take k b.later.items)) ++ (ns ++ joined (drop (suc k) b.later.items))) e)

pub later_sound : (b : Blocks) (k : ℕ) (y : Vec Change) (more count : ℕ) → AreBlocks b → k < length b.later.items → IsLater y
    → length y.items ≡ length (get_or b.later.items k b.first).items + more → count ≡ b.count + more → count ≤ b.limit
    → AreBlocks (record { first = b.first; later = with_item b.later k y; blank = b.blank; count = count; limit = b.limit })
later_sound b k y more count s l is len c le =
    let a = length_set b.later.items k y b.first l in
    let p : length (b.first.items ++ joined (set b.later.items k y)) ≡ length b.first.items + length (joined (set b.later.items k y)) = length-append b.first.items (joined (set b.later.items k y)) in
    let q : length (b.first.items ++ joined b.later.items) ≡ length b.first.items + length (joined b.later.items) = length-append b.first.items (joined b.later.items) in
    let r : b.count ≡ length (b.first.items ++ joined b.later.items) = s.count in
    let sum : count ≡ length (b.first.items ++ joined (set b.later.items k y)) = omega (arith, a, p, q, r, len, c) in
    record {
      most = s.most;
      wide = s.wide;
      later = all_set IsLater b.later.items k y is s.later;
      blank = s.blank;
      count = sum;
      within = le;
      enough = s.enough;
      room = s.room;
      blank_room = s.blank_room;
    }

pub first_sound : (b : Blocks) (y : Vec Change) (more count : ℕ) → AreBlocks b → length y.items ≤ 128 → vec_capacity b.first ≤ vec_capacity y
    → length y.items ≡ length b.first.items + more → count ≡ b.count + more → count ≤ b.limit
    → AreBlocks (record { first = y; later = b.later; blank = b.blank; count = count; limit = b.limit })
first_sound b y more count s most wide len c le =
    let p : length (y.items ++ joined b.later.items) ≡ length y.items + length (joined b.later.items) = length-append y.items (joined b.later.items) in
    let q : length (b.first.items ++ joined b.later.items) ≡ length b.first.items + length (joined b.later.items) = length-append b.first.items (joined b.later.items) in
    let r : b.count ≡ length (b.first.items ++ joined b.later.items) = s.count in
    let sum : count ≡ length (y.items ++ joined b.later.items) = omega (arith, p, q, r, len, c) in
    let was : min b.limit 128 ≤ vec_capacity b.first = s.wide in
    let is : min b.limit 128 ≤ vec_capacity y = omega (arith, was, wide) in
    record {
      most = most;
      wide = is;
      later = s.later;
      blank = s.blank;
      count = sum;
      within = le;
      enough = s.enough;
      room = s.room;
      blank_room = s.blank_room;
    }

-- beside a full block there is a blank one where more notes may come
pub blank_left : (b : Blocks) (at : Option ℕ) → AreBlocks b → b.count < b.limit → IsWithin b at → 128 ≤ length (notes_at b at) → 0 < vec_len b.blank
blank_left b None s room within full =
    let q : length (b.first.items ++ joined b.later.items) ≡ length b.first.items + length (joined b.later.items) = length-append b.first.items (joined b.later.items) in
    let r : b.count ≡ length (b.first.items ++ joined b.later.items) = s.count in
    let m = least_in b.later.items s.later in
    let e : vec_len b.later ≡ length b.later.items = b.later.ok.0 in
    let f : 128 ≤ length b.first.items = full in
    let n : b.limit ≤ max 128 ((1 + vec_len b.later + vec_len b.blank) * 64) = s.enough in
    omega (arith, q, r, m, e, f, n, room)
blank_left b (Some k) s room within full =
    let q : length (b.first.items ++ joined b.later.items) ≡ length b.first.items + length (joined b.later.items) = length-append b.first.items (joined b.later.items) in
    let r : b.count ≡ length (b.first.items ++ joined b.later.items) = s.count in
    let m = full_in b.later.items k b.first s.later within full in
    let e : vec_len b.later ≡ length b.later.items = b.later.ok.0 in
    let l : k < length b.later.items = within in
    let n : b.limit ≤ max 128 ((1 + vec_len b.later + vec_len b.blank) * 64) = s.enough in
    omega (arith, q, r, m, e, l, n, room)

-- a note put into one of two halves
pub put_low : (before own behind : List Change) (at : ℕ) (note : Change) → at ≤ 64 → at ≤ length own
    → before ++ (insert (take 64 own) at note ++ (drop 64 own ++ behind)) ≡ before ++ (insert own at note ++ behind)
put_low before own behind at note le within =
    let short : at ≤ length (take 64 own) = at_take own 64 at le within in
    ap (λ (ns : List Change). before ++ ns)
    (sym (append_assoc (insert (take 64 own) at note) (drop 64 own) behind)
    ∙ (ap (λ (ns : List Change). ns ++ behind) (sym (insert-append_left (take 64 own) (drop 64 own) at note short))
    ∙ ap (λ (ns : List Change). insert ns at note ++ behind) (take-append-drop 64 own)))
  where
    at_take : (xs : List Change) (n at : ℕ) → at ≤ n → at ≤ length xs → at ≤ length (take n xs)
    at_take xs zero at le l = omega (arith, le)
    at_take [] (suc n) at le l = omega (arith, l)
    at_take (x ∷ xs) (suc n) zero le l = omega arith
    at_take (x ∷ xs) (suc n) (suc at) le l = let r = at_take xs n at (omega (arith, le)) (omega (arith, l)) in omega (arith, r)

pub put_high : (before own behind : List Change) (at : ℕ) (note : Change) → 64 ≤ at → 64 ≤ length own
    → (before ++ take 64 own) ++ (insert (drop 64 own) (at - 64) note ++ behind) ≡ before ++ (insert own at note ++ behind)
put_high before own behind at note le full =
    append_assoc before (take 64 own) (insert (drop 64 own) (at - 64) note ++ behind)
    ∙ ap (λ (ns : List Change). before ++ ns)
    (sym (append_assoc (take 64 own) (insert (drop 64 own) (at - 64) note) behind)
    ∙ (ap (λ (ns : List Change). ns ++ behind) (sym (insert-append_right (take 64 own) (drop 64 own) 64 at note (length_first own 64 full) le))
    ∙ ap (λ (ns : List Change). insert ns at note ++ behind) (take-append-drop 64 own)))
  where
    length_first : (xs : List Change) (n : ℕ) → n ≤ length xs → length (take n xs) ≡ n
    length_first xs zero l = refl
    length_first [] (suc n) l = absurd (omega (arith, l))
    length_first (x ∷ xs) (suc n) l = let r = length_first xs n (omega (arith, l)) in omega (arith, r)
