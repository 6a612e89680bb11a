-- What is noted at a position, by the index at which its note is or belongs.
use Rattle.std.proofs.Common.{◌≡◌, ℕ, ◌<◌, true, false, List, [], ◌∷◌, ◌++◌, None, Some, length, get_or, refl, sym, ap, ◌∙◌, arith}
use Rattle.std.specs.List.{prefix_len}
use Rattle.std.specs.Ordering.{is_lt, is_eq, ordering_reverse}
use Rattle.std.specs.declared.cmp.Ordering.{Ordering}
use Rattle.std.specs.declared.cmp.Ordering.TheVariants.{Less, Equal, Greater}
use Rattle.hy_value.specs.declared.change.Change.{Change}
use Rattle.hy_notes.specs.Notes.{order_of, Ascends, below, note_at, told_by}
use Rattle.hy_notes.specs.Blocks.{AreBefore, AreBehind}
use Rattle.hy_notes.proofs.Orders.{note_cmp, notes_total, same_place, at, at_place, apart_less, apart_more}
use Rattle.hy_notes.proofs.Prefixes.{passes, fails}
use Rattle.hy_notes.proofs.Joined.{all_both}
use Rattle.hy_notes.proofs.Placing.{all_behind}
use Rattle.hy_notes.proofs.Tells.{found, passed}

-- a note before a position isn't of it, nor is one behind it
pub less_apart : (n : Change) (table pos : ℕ) → order_of n table pos ≡ Less → at n table pos ≡ false
less_apart n table pos e = apart_more n (record n { table = table; pos = pos }) table pos e (at_place (record n { table = table; pos = pos }) table pos refl refl)

pub more_apart : (n : Change) (table pos : ℕ) → order_of n table pos ≡ Greater → at n table pos ≡ false
more_apart n table pos e =
    let t : Change = record n { table = table; pos = pos } in
    let less : note_cmp t n ≡ Less = notes_total.antisymm t n ∙ ap ordering_reverse e in
    apart_less t n table pos less (at_place t table pos refl refl)

pub tie_is_at : (n : Change) (table pos : ℕ) → order_of n table pos ≡ Equal → at n table pos ≡ true
tie_is_at n table pos e = let is = same_place n table pos e in at_place n table pos is.0 is.1

-- notes before a position tell nothing of it, nor do those behind it
pub none_before : (xs ys : List Change) (table pos : ℕ) → AreBefore table pos xs → note_at (xs ++ ys) table pos ≡ note_at ys table pos
none_before [] ys table pos all = refl
none_before (x ∷ xs) ys table pos all = passed x (xs ++ ys) table pos (less_apart x table pos all.0) ∙ none_before xs ys table pos all.1

pub none_behind_it : (ys : List Change) (table pos : ℕ) → AreBehind table pos ys → note_at ys table pos ≡ None
none_behind_it [] table pos all = refl
none_behind_it (y ∷ ys) table pos all = passed y ys table pos (more_apart y table pos all.0) ∙ none_behind_it ys table pos all.1

-- the note at the index of the first that isn't before the position
pub told_at : (xs ys : List Change) (table pos : ℕ) (d : Change) → prefix_len (below table pos) xs < length xs
    → order_of (get_or xs (prefix_len (below table pos) xs) d) table pos ≡ Equal
    → note_at (xs ++ ys) table pos ≡ Some (told_by (get_or xs (prefix_len (below table pos) xs) d))
told_at [] ys table pos d l is = absurd (omega (arith, l))
told_at (x ∷ xs) ys table pos d l is = step (order_of x table pos) refl (told_at xs ys table pos d)
  where
    step : (o : Ordering) → order_of x table pos ≡ o
        → (prefix_len (below table pos) xs < length xs → order_of (get_or xs (prefix_len (below table pos) xs) d) table pos ≡ Equal
        → note_at (xs ++ ys) table pos ≡ Some (told_by (get_or xs (prefix_len (below table pos) xs) d)))
        → note_at (x ∷ xs ++ ys) table pos ≡ Some (told_by (get_or (x ∷ xs) (prefix_len (below table pos) (x ∷ xs)) d))
    step Less e rest =
        let k = passes (below table pos) x xs (ap is_lt e) in
        passed x (xs ++ ys) table pos (less_apart x table pos e)
        ∙ (rest (omega (arith, l, k)) (ap (λ (j : ℕ). order_of (get_or (x ∷ xs) j d) table pos) (sym k) ∙ is)
        ∙ ap (λ (j : ℕ). Some (told_by (get_or (x ∷ xs) j d))) (sym k))
    step Equal e rest =
        let k = fails (below table pos) x xs (ap is_lt e) in
        found x (xs ++ ys) table pos (tie_is_at x table pos e) ∙ ap (λ (j : ℕ). Some (told_by (get_or (x ∷ xs) j d))) (sym k)
    step Greater e rest =
        let k = fails (below table pos) x xs (ap is_lt e) in
        absurd (let f = sym (ap (λ (j : ℕ). order_of (get_or (x ∷ xs) j d) table pos) k) ∙ is in let g = e in cc)

pub absent_at : (xs ys : List Change) (table pos : ℕ) (d : Change) → Ascends xs → AreBehind table pos ys
    → (prefix_len (below table pos) xs < length xs → is_eq (order_of (get_or xs (prefix_len (below table pos) xs) d) table pos) ≡ false)
    → note_at (xs ++ ys) table pos ≡ None
absent_at [] ys table pos d up behind other = none_behind_it ys table pos behind
absent_at (x ∷ xs) ys table pos d up behind other = step (order_of x table pos) refl (absent_at xs ys table pos d up.1 behind)
  where
    step : (o : Ordering) → order_of x table pos ≡ o
        → ((prefix_len (below table pos) xs < length xs → is_eq (order_of (get_or xs (prefix_len (below table pos) xs) d) table pos) ≡ false) → note_at (xs ++ ys) table pos ≡ None)
        → note_at (x ∷ xs ++ ys) table pos ≡ None
    step Less e rest =
        let k = passes (below table pos) x xs (ap is_lt e) in
        passed x (xs ++ ys) table pos (less_apart x table pos e)
        ∙ rest (λ l. ap (λ (j : ℕ). is_eq (order_of (get_or (x ∷ xs) j d) table pos)) (sym k) ∙ other (omega (arith, l, k)))
    step Equal e rest =
        let k = fails (below table pos) x xs (ap is_lt e) in
        absurd (let f = ap is_eq e in let g = ap (λ (j : ℕ). is_eq (order_of (get_or (x ∷ xs) j d) table pos)) (sym k) ∙ other (omega (arith, k)) in cc)
    step Greater e rest =
        passed x (xs ++ ys) table pos (more_apart x table pos e)
        ∙ none_behind_it (xs ++ ys) table pos (all_both (λ note. order_of note table pos ≡ Greater) xs ys (all_behind x xs table pos e up.0) behind)

eq_is : (o : Ordering) → is_eq o ≡ true → o ≡ Equal
eq_is Less h = absurd (cc)
eq_is Equal h = refl
eq_is Greater h = absurd (cc)

not_eq : (o : Ordering) → (o ≡ Equal → ⊥) → is_eq o ≡ false
not_eq Less h = refl
not_eq Equal h = absurd (h refl)
not_eq Greater h = refl

-- what the code knows of an index in a copy of the notes of a block
module _ (before own behind copy : List Change) (table pos : ℕ) (i : ℕ) (lows : AreBefore table pos before) (up : Ascends own) (highs : AreBehind table pos behind)
    (e : copy ≡ own) (count : i ≡ prefix_len (below table pos) copy) where
  counted : i ≡ prefix_len (below table pos) own
  counted = count ∙ ap (prefix_len (below table pos)) e

  pub told_within : (d : Change) → i < length copy → order_of (get_or copy i d) table pos ≡ Equal → note_at (before ++ (own ++ behind)) table pos ≡ Some (told_by (get_or copy i d))
  told_within d l is =
      none_before before (own ++ behind) table pos lows
      ∙ (told_at own behind table pos d (omega (arith, l, counted, ap length e))
      (ap (λ (k : ℕ). order_of (get_or own k d) table pos) (sym counted) ∙ (ap (λ (xs : List Change). order_of (get_or xs i d) table pos) (sym e) ∙ is))
      ∙ (ap (λ (k : ℕ). Some (told_by (get_or own k d))) (sym counted) ∙ ap (λ (xs : List Change). Some (told_by (get_or xs i d))) (sym e)))

  pub absent_within : (d : Change) → (i < length copy → is_eq (order_of (get_or copy i d) table pos) ≡ false) → note_at (before ++ (own ++ behind)) table pos ≡ None
  absent_within d other =
      none_before before (own ++ behind) table pos lows
      ∙ absent_at own behind table pos d up highs (λ l.
      ap (λ (k : ℕ). is_eq (order_of (get_or own k d) table pos)) (sym counted)
      ∙ (ap (λ (xs : List Change). is_eq (order_of (get_or xs i d) table pos)) (sym e) ∙ other (omega (arith, l, counted, ap length e))))

  pub apart_within : note_at (before ++ (own ++ behind)) table pos ≡ None → i < length copy → (d : Change) → is_eq (order_of (get_or copy i d) table pos) ≡ false
  apart_within none l d = not_eq (order_of (get_or copy i d) table pos) (λ is. absurd (let f = sym (told_within d l is) ∙ none in cc))
