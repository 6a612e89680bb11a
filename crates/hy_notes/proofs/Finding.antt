-- All notes, by those of the block in which a position is or belongs.
use Rattle.std.proofs.Common.{◌≡◌, ℕ, zero, suc, ◌<◌, ◌≤◌, true, false, List, [], ◌∷◌, ◌++◌, Option, None, Some, length, get_or, drop, refl, sym, ap, ◌∙◌, inl, inr, arith, option_map, slice_get, subst}
use Rattle.std.specs.List.{prefix_len, insert, AllByRecursion}
use Rattle.std.specs.Global.{Vec}
use Rattle.std.specs.Ordering.{is_lt, is_eq}
use Rattle.std.specs.declared.cmp.Ordering.TheVariants.{Equal}
use Rattle.std.proofs.Math.ListN.{set}
use Rattle.std.proofs.lemmas.Bool.{cases_Bool}
use Rattle.hy_value.specs.declared.change.Change.{Change}
use Rattle.hy_notes.specs.declared.blocks.Blocks.{Blocks}
use Rattle.hy_notes.specs.Notes.{order_of, below, place_of, with_after, with_note}
use Rattle.hy_notes.specs.Blocks.{joined, notes_in, notes_at, notes_before, notes_behind, next_block, AreBefore, AreBehind, IsPlace, IsLater}
use Rattle.hy_notes.proofs.Prefixes.{passes, fails}
use Rattle.hy_notes.proofs.Adding.{put_noted, put_absent}
use Rattle.hy_notes.proofs.Placing.{with_in}
use Rattle.hy_notes.proofs.Edits.{all_at}

abbrev pub or_else : {X : Type 0} → Option X → Option X → Option X
or_else None y = y
or_else (Some x) y = Some x

abbrev pub found : ℕ → ℕ → List Change → Option Change
found table pos notes = slice_get notes (prefix_len (below table pos) notes)

passed : (table pos : ℕ) (x : Change) (xs : List Change) → below table pos x ≡ true → found table pos (x ∷ xs) ≡ found table pos xs
passed table pos x xs h = ap (λ (k : ℕ). slice_get (x ∷ xs) k) (passes (below table pos) x xs h)

stopped : (table pos : ℕ) (x : Change) (xs : List Change) → below table pos x ≡ false → found table pos (x ∷ xs) ≡ Some x
stopped table pos x xs h = ap (λ (k : ℕ). slice_get (x ∷ xs) k) (fails (below table pos) x xs h)

pub found_in : (table pos : ℕ) (before own behind : List Change) → AreBefore table pos before → AreBehind table pos behind
    → found table pos (before ++ (own ++ behind)) ≡ or_else (found table pos own) (slice_get behind 0)
found_in table pos [] [] [] all more = refl
found_in table pos [] [] (y ∷ ys) all more = stopped table pos y ys (ap is_lt more.0)
found_in table pos [] (x ∷ xs) behind all more =
    elim (cases_Bool (below table pos x)) [
      | inl h ↦ passed table pos x (xs ++ behind) h ∙ (found_in table pos [] xs behind tt more ∙ ap (λ (o : Option Change). or_else o (slice_get behind 0)) (sym (passed table pos x xs h)))
      | inr h ↦ stopped table pos x (xs ++ behind) h ∙ ap (λ (o : Option Change). or_else o (slice_get behind 0)) (sym (stopped table pos x xs h))
    ]
found_in table pos (x ∷ xs) own behind all more = passed table pos x (xs ++ (own ++ behind)) (ap is_lt all.0) ∙ found_in table pos xs own behind all.1 more

pub placed : (a b : Option Change) → option_map place_of (or_else a b) ≡ or_else (option_map place_of a) (option_map place_of b)
placed None b = refl
placed (Some x) b = refl

pub behind_is : (b : Blocks) (at : Option ℕ) → notes_behind b at ≡ joined (drop (next_block at) b.later.items)
behind_is b None = refl
behind_is b (Some k) = refl

-- the first note that isn't before a position is of its block, or the first one behind it
pub first_found : (b : Blocks) (at : Option ℕ) (table pos : ℕ) → IsPlace b at table pos
    → option_map place_of (slice_get (notes_in b) (prefix_len (below table pos) (notes_in b)))
    ≡ or_else (option_map place_of (slice_get (notes_at b at) (prefix_len (below table pos) (notes_at b at)))) (option_map place_of (slice_get (notes_behind b at) 0))
first_found b at table pos is =
    ap (λ (ns : List Change). option_map place_of (found table pos ns)) (all_at b at is.within)
    ∙ (ap (option_map place_of) (found_in table pos (notes_before b at) (notes_at b at) (notes_behind b at) is.before is.behind)
    ∙ placed (found table pos (notes_at b at)) (slice_get (notes_behind b at) 0))

-- the notes with one more, by those of the block in which its position is or belongs
with_place : (b : Blocks) (at : Option ℕ) (new : Change) (own : List Change) → IsPlace b at new.table new.pos → own ≡ with_note new (notes_at b at)
    → notes_before b at ++ (own ++ notes_behind b at) ≡ with_note new (notes_in b)
with_place b at new own is e =
    ap (λ (ns : List Change). notes_before b at ++ (ns ++ notes_behind b at)) e
    ∙ (sym (with_in new (notes_before b at) (notes_at b at) (notes_behind b at) is.before is.behind)
    ∙ ap (λ (ns : List Change). with_note new ns) (sym (all_at b at is.within)))

-- what the code makes of a block, by what it knows of an index in a copy of its notes
module _ (b : Blocks) (at : Option ℕ) (new : Change) (pos : ℕ) (same : pos ≡ new.pos) (is : IsPlace b at new.table pos) (first second : List Change) (i : ℕ)
    (e : first ≡ notes_at b at) (f : second ≡ notes_at b at) (count : i ≡ prefix_len (below new.table pos) first) where
  here : IsPlace b at new.table new.pos
  here = subst (λ (n : ℕ). IsPlace b at new.table n) same is

  counted : i ≡ prefix_len (below new.table new.pos) first
  counted = count ∙ ap (λ (n : ℕ). prefix_len (below new.table n) first) same

  pub noted_in : i < length second → ((d : Change) → order_of (get_or second i d) new.table pos ≡ Equal)
      → notes_before b at ++ (set (notes_at b at) i (with_after (get_or (notes_at b at) i new) new.after) ++ notes_behind b at) ≡ with_note new (notes_in b)
  noted_in within tied =
      with_place b at new _ here (put_noted new (notes_at b at) first second i e f counted within (λ d. ap (λ (n : ℕ). order_of (get_or second i d) new.table n) (sym same) ∙ tied d))

  pub absent_in : (i < length second → (d : Change) → is_eq (order_of (get_or second i d) new.table pos) ≡ false)
      → notes_before b at ++ (insert (notes_at b at) i new ++ notes_behind b at) ≡ with_note new (notes_in b)
  absent_in other =
      with_place b at new _ here
      (put_absent new (notes_at b at) first second i e f counted (λ l d. ap (λ (n : ℕ). is_eq (order_of (get_or second i d) new.table n)) (sym same) ∙ other l d))

head_of : (ns rest : List Change) → 64 ≤ length ns → slice_get ns 0 ≡ slice_get (ns ++ rest) 0
head_of [] rest l = absurd (omega (arith, l))
head_of (n ∷ ns) rest l = refl

-- the first note of a block behind the first is the first from there on
pub first_at : (xs : List (Vec Change)) (k : ℕ) (d : Vec Change) → AllByRecursion IsLater xs → k < length xs → slice_get (get_or xs k d).items 0 ≡ slice_get (joined (drop k xs)) 0
first_at [] k d all l = absurd (omega (arith, l))
first_at (x ∷ xs) zero d all l = head_of x.items (joined xs) all.0.least
first_at (x ∷ xs) (suc k) d all l = first_at xs k d all.1 (omega (arith, l))
