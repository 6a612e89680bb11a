-- The block in which a position is or belongs.
use Rattle.std.proofs.Common.{◌≡◌, ℕ, zero, suc, ◌<◌, ◌≤◌, true, false, List, [], ◌∷◌, ◌++◌, length, get_or, take, drop, refl, sym, ap, ◌∙◌, arith, append_assoc, subst}
use Rattle.std.specs.List.{AllByRecursion}
use Rattle.std.specs.List.Sorted.{IsPartitionedBy, IsPartitionPoint}
use Rattle.std.specs.Ordering.{is_le, ordering_reverse}
use Rattle.std.specs.declared.cmp.Ordering.{Ordering}
use Rattle.std.specs.declared.cmp.Ordering.TheVariants.{Less, Equal, Greater}
use Rattle.std.specs.Global.{Vec}
use Rattle.hy_value.specs.declared.change.Change.{Change}
use Rattle.hy_notes.specs.Notes.{order_of, Ascends, with_after, with_note}
use Rattle.hy_notes.specs.Blocks.{joined, begins_list, begins, AreBefore, AreBehind, IsLater}
use Rattle.hy_notes.proofs.Orders.{note_cmp, notes_total, same_place}
use Rattle.hy_notes.proofs.Adding.{by_order}
use Rattle.hy_notes.proofs.Joined.{all_left, all_right, all_both, all_drop, joined_at}

pub ascends_left : (xs ys : List Change) → Ascends (xs ++ ys) → Ascends xs
ascends_left [] ys up = tt
ascends_left (x ∷ xs) ys up = (all_left (λ later. note_cmp x later ≡ Less) xs ys up.0, ascends_left xs ys up.1)

pub ascends_right : (xs ys : List Change) → Ascends (xs ++ ys) → Ascends ys
ascends_right [] ys up = up
ascends_right (x ∷ xs) ys up = ascends_right xs ys up.1

ascends_across : (xs : List Change) (n : Change) (ys : List Change) → Ascends (xs ++ n ∷ ys) → AllByRecursion (λ x. note_cmp x n ≡ Less) xs
ascends_across [] n ys up = tt
ascends_across (x ∷ xs) n ys up = ((all_right (λ later. note_cmp x later ≡ Less) xs (n ∷ ys) up.0).0, ascends_across xs n ys up.1)

before_le : (x n : Change) (table pos : ℕ) → note_cmp x n ≡ Less → is_le (order_of n table pos) ≡ true → order_of x table pos ≡ Less
before_le x n table pos less le = step (order_of n table pos) refl le
  where
    step : (o : Ordering) → order_of n table pos ≡ o → is_le o ≡ true → order_of x table pos ≡ Less
    step Less e h = notes_total.trans x n (record n { table = table; pos = pos }) less e
    step Equal e h = let is = same_place n table pos e in ap (λ (p : ℕ × ℕ). order_of x p.0 p.1) (λ i. (sym is.0 i, sym is.1 i)) ∙ less
    step Greater e h = absurd (cc)

behind_lt : (n y : Change) (table pos : ℕ) → order_of n table pos ≡ Greater → note_cmp n y ≡ Less → order_of y table pos ≡ Greater
behind_lt n y table pos e less =
    let t : Change = record n { table = table; pos = pos } in
    let first : note_cmp t n ≡ Less = notes_total.antisymm t n ∙ ap ordering_reverse e in
    notes_total.antisymm y t ∙ ap ordering_reverse (notes_total.trans t n y first less)

not_le : (o : Ordering) → is_le o ≡ false → o ≡ Greater
not_le Less h = absurd (cc)
not_le Equal h = absurd (cc)
not_le Greater h = refl

pub all_behind : (n : Change) (ys : List Change) (table pos : ℕ) → order_of n table pos ≡ Greater → AllByRecursion (λ later. note_cmp n later ≡ Less) ys → AreBehind table pos ys
all_behind n [] table pos e all = tt
all_behind n (y ∷ ys) table pos e all = (behind_lt n y table pos e all.0, all_behind n ys table pos e all.1)

behind_block : (ns : List Change) (table pos : ℕ) → Ascends ns → begins_list table pos ns ≡ false → AreBehind table pos ns
behind_block [] table pos up h = tt
behind_block (n ∷ ns) table pos up h = let e = not_le (order_of n table pos) h in (e, all_behind n ns table pos e up.0)

behind_blocks : (xs : List (Vec Change)) (table pos : ℕ) → Ascends (joined xs) → AllByRecursion (λ b. begins table pos b ≡ false) xs → AreBehind table pos (joined xs)
behind_blocks [] table pos up all = tt
behind_blocks (x ∷ xs) table pos up all =
    all_both (λ note. order_of note table pos ≡ Greater) x.items (joined xs)
    (behind_block x.items table pos (ascends_left x.items (joined xs) up) all.0) (behind_blocks xs table pos (ascends_right x.items (joined xs) up) all.1)

ascends_drop : (xs : List (Vec Change)) (i : ℕ) → Ascends (joined xs) → Ascends (joined (drop i xs))
ascends_drop xs zero up = up
ascends_drop [] (suc i) up = tt
ascends_drop (x ∷ xs) (suc i) up = ascends_drop xs i (ascends_right x.items (joined xs) up)

-- blocks from the first on that begins behind a position
pub behind_from : (xs : List (Vec Change)) (i table pos : ℕ) → Ascends (joined xs)
    → IsPartitionPoint (λ b. begins table pos b ≡ true) (λ b. begins table pos b ≡ false) xs i → AreBehind table pos (joined (drop i xs))
behind_from xs i table pos up point =
    behind_blocks (drop i xs) table pos (ascends_drop xs i up) (all_drop (λ b. begins table pos b ≡ false) xs i (λ k d a b. point.1 k d a b))

each_before : (xs : List Change) (n : Change) (table pos : ℕ) → is_le (order_of n table pos) ≡ true → AllByRecursion (λ x. note_cmp x n ≡ Less) xs → AreBefore table pos xs
each_before [] n table pos le all = tt
each_before (x ∷ xs) n table pos le all = (before_le x n table pos all.0 le, each_before xs n table pos le all.1)

before_begun : (xs ns rest : List Change) (table pos : ℕ) → Ascends (xs ++ (ns ++ rest)) → begins_list table pos ns ≡ true → AreBefore table pos xs
before_begun xs [] rest table pos up h = absurd (cc)
before_begun xs (n ∷ ns) rest table pos up h = each_before xs n table pos h (ascends_across xs n (ns ++ rest) up)

-- what stands before a block that begins at a position or before it
pub before_block : (first : List Change) (xs : List (Vec Change)) (k table pos : ℕ) (d : Vec Change) → Ascends (first ++ joined xs) → k < length xs
    → begins table pos (get_or xs k d) ≡ true → AreBefore table pos (first ++ joined (take k xs))
before_block first xs k table pos d up l h =
    before_begun (first ++ joined (take k xs)) (get_or xs k d).items (joined (drop (suc k) xs)) table pos
    (subst Ascends (ap (λ (ns : List Change). first ++ ns) (joined_at xs k d l) ∙ sym (append_assoc first (joined (take k xs)) ((get_or xs k d).items ++ joined (drop (suc k) xs)))) up) h

all_of : (P : Change → Type 0) (xs : List (Vec Change)) (k : ℕ) (d : Vec Change) → AllByRecursion P (joined xs) → k < length xs → AllByRecursion P (get_or xs k d).items
all_of P [] k d all l = absurd (omega (arith, l))
all_of P (x ∷ xs) zero d all l = all_left P x.items (joined xs) all
all_of P (x ∷ xs) (suc k) d all l = all_of P xs k d (all_right P x.items (joined xs) all) (omega (arith, l))

begun_before : (n : Change) (ms : List Change) (table pos : ℕ) → begins_list table pos ms ≡ true → AllByRecursion (λ y. note_cmp n y ≡ Less) ms → is_le (order_of n table pos) ≡ true
begun_before n [] table pos h all = absurd (cc)
begun_before n (m ∷ ms) table pos h all = ap is_le (before_le n m table pos all.0 h)

first_begins : (ns : List Change) (xs : List (Vec Change)) (j table pos : ℕ) (d : Vec Change) → 64 ≤ length ns → Ascends (ns ++ joined xs) → j < length xs
    → begins table pos (get_or xs j d) ≡ true → begins_list table pos ns ≡ true
first_begins [] xs j table pos d least up l h = absurd (omega (arith, least))
first_begins (n ∷ ns) xs j table pos d least up l h =
    begun_before n (get_or xs j d).items table pos h (all_of (λ y. note_cmp n y ≡ Less) xs j d (all_right (λ y. note_cmp n y ≡ Less) ns (joined xs) up.0) l)

-- blocks that begin at a position or before it come first
pub begun_first : (table pos : ℕ) (xs : List (Vec Change)) → Ascends (joined xs) → AllByRecursion IsLater xs → IsPartitionedBy (begins table pos) xs
begun_first table pos [] up all i j d le l h = absurd (omega (arith, l))
begun_first table pos (x ∷ xs) up all zero zero d le l h = h
begun_first table pos (x ∷ xs) up all zero (suc j) d le l h = first_begins x.items xs j table pos d all.0.least up (omega (arith, l)) h
begun_first table pos (x ∷ xs) up all (suc i) zero d le l h = absurd (omega (arith, le))
begun_first table pos (x ∷ xs) up all (suc i) (suc j) d le l h =
    begun_first table pos xs (ascends_right x.items (joined xs) up) all.1 i j d (omega (arith, le)) (omega (arith, l)) h

pub own_with : (new : Change) (own behind : List Change) → AreBehind new.table new.pos behind → with_note new (own ++ behind) ≡ with_note new own ++ behind
own_with new [] [] all = refl
own_with new [] (y ∷ ys) all = ap (λ (o : Ordering). by_order o (y ∷ with_note new ys) (with_after y new.after ∷ ys) (new ∷ y ∷ ys)) all.0
own_with new (x ∷ xs) behind all =
    let rest = own_with new xs behind all in
    elim (order_of x new.table new.pos) as (λ (o : Ordering). by_order o (x ∷ with_note new (xs ++ behind)) (with_after x new.after ∷ (xs ++ behind)) (new ∷ x ∷ (xs ++ behind))
    ≡ by_order o (x ∷ with_note new xs) (with_after x new.after ∷ xs) (new ∷ x ∷ xs) ++ behind) [
      | Less ↦ ap (λ (ns : List Change). x ∷ ns) rest
      | Equal ↦ refl
      | Greater ↦ refl
    ]

-- one more note among those of the block in which its position is or belongs
pub with_in : (new : Change) (before own behind : List Change) → AreBefore new.table new.pos before → AreBehind new.table new.pos behind
    → with_note new (before ++ (own ++ behind)) ≡ before ++ (with_note new own ++ behind)
with_in new [] own behind all more = own_with new own behind more
with_in new (x ∷ xs) own behind all more =
    ap (λ (o : Ordering). by_order o (x ∷ with_note new (xs ++ (own ++ behind))) (with_after x new.after ∷ (xs ++ (own ++ behind))) (new ∷ x ∷ (xs ++ (own ++ behind)))) all.0
    ∙ ap (λ (ns : List Change). x ∷ ns) (with_in new xs own behind all.1 more)

-- the notes of a block ascend
pub ascends_within : (before own behind : List Change) → Ascends (before ++ (own ++ behind)) → Ascends own
ascends_within before own behind up = ascends_left own behind (ascends_right before (own ++ behind) up)
