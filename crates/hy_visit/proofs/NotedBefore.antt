-- What ascending notes say was there before at a position.
use Rattle.std.proofs.Common.{◌≡◌, ℕ, zero, suc, ◌+◌, ◌<◌, ◌≤◌, Bool, true, false, List, [], ◌∷◌, ◌++◌, None, Some, length, get_or, map, take, refl, sym, ap, ◌∙◌, cond, subst, arith, add-one, inl, inr}
use Rattle.std.specs.Prelude.{Option, ◌==◌, ◌&&◌, filter, nat_le, nat_lt}
use Rattle.std.specs.List.{AllByRecursion, range_with_len}
use Rattle.std.specs.Option.{option_map}
use Rattle.std.specs.Cmp.{tied_itself}
use Rattle.std.specs.Ordering.{ordering_then, nat_cmp}
use Rattle.std.specs.declared.cmp.Ordering.{Ordering}
use Rattle.std.specs.declared.cmp.Ordering.TheVariants.{Less, Equal}
use Rattle.std.proofs.lemmas.Bool.{and_parts, cases_Bool, eqb-true, eq-eqb, le-leb, leb-true, lt-ltb, ltb-true}
use Rattle.std.proofs.lemmas.Cmp.{nat_cmp_total}
use Rattle.hy_value.specs.declared.change.Change.{Change}
use Rattle.hy_notes.specs.Notes.{Ascends, is_between, note_at, order_of}
use Rattle.hy_undo.specs.Places.{Cell}
use Rattle.hy_event.specs.Backing.{noted_before}

-- a note is of a position
abbrev pub at : Change → ℕ → ℕ → Bool
at note table pos = note.table == table && note.pos == pos

pub at_itself : (note : Change) (table pos : ℕ) → note.table ≡ table → note.pos ≡ pos → at note table pos ≡ true
at_itself note table pos t p = λ i. eq-eqb note.table table t i && eq-eqb note.pos pos p i

-- the first note of a position tells
pub found : (note : Change) (notes : List Change) (table pos : ℕ) → at note table pos ≡ true → noted_before (note ∷ notes) table pos ≡ Some note.before
found note notes table pos e =
    ap (λ (b : Bool). option_map (λ (pair : Cell × Cell). pair.0) (cond b (Some (note.before, note.after)) (note_at notes table pos))) e

pub passed : (note : Change) (notes : List Change) (table pos : ℕ) → at note table pos ≡ false
    → noted_before (note ∷ notes) table pos ≡ noted_before notes table pos
passed note notes table pos e =
    ap (λ (b : Bool). option_map (λ (pair : Cell × Cell). pair.0) (cond b (Some (note.before, note.after)) (note_at notes table pos))) e

-- a note behind others tells of its position, and of no other
pub last_other : (notes : List Change) (last : Change) (table pos : ℕ) → at last table pos ≡ false
    → noted_before (notes ++ last ∷ []) table pos ≡ noted_before notes table pos
last_other [] last table pos e = passed last [] table pos e
last_other (note ∷ notes) last table pos e = elim (cases_Bool (at note table pos)) [
  | inl here ↦ found note (notes ++ last ∷ []) table pos here ∙ sym (found note notes table pos here)
  | inr apart ↦ passed note (notes ++ last ∷ []) table pos apart ∙ (last_other notes last table pos e ∙ sym (passed note notes table pos apart))
]

pub last_here : (notes : List Change) (last : Change) (table pos : ℕ) → noted_before notes table pos ≡ None → at last table pos ≡ true
    → noted_before (notes ++ last ∷ []) table pos ≡ Some last.before
last_here [] last table pos none e = found last [] table pos e
last_here (note ∷ notes) last table pos none e = elim (cases_Bool (at note table pos)) [
  | inl here ↦ absurd (let told = found note notes table pos here in cc)
  | inr apart ↦ passed note (notes ++ last ∷ []) table pos apart ∙ last_here notes last table pos (sym (passed note notes table pos apart) ∙ none) e
]

-- a note before a position isn't of it
pub less_apart : (note : Change) (table pos : ℕ) → order_of note table pos ≡ Less → at note table pos ≡ false
less_apart note table pos less = elim (cases_Bool (at note table pos)) [
  | inr apart ↦ apart
  | inl here ↦
      let parts = and_parts (note.table == table) (note.pos == pos) here in
      let t : note.table ≡ table = eqb-true note.table table parts.0 in
      let p : note.pos ≡ pos = eqb-true note.pos pos parts.1 in
      let tie : order_of note table pos ≡ Equal =
      (λ i. ordering_then (nat_cmp note.table (sym t i)) (nat_cmp note.pos (sym p i)))
      ∙ (λ i. ordering_then (tied_itself nat_cmp_total note.table i) (tied_itself nat_cmp_total note.pos i)) in
      absurd (cc)
]

each_at : {A : Type 0} (P : A → Type 0) (xs : List A) (i : ℕ) (d : A) → AllByRecursion P xs → i < length xs → P (get_or xs i d)
each_at P [] i d all l = absurd (omega arith)
each_at P (x ∷ xs) zero d all l = all.0
each_at P (x ∷ xs) (suc i) d all l = each_at P xs i d all.1 (omega arith)

pub all_at : {A : Type 0} (P : A → Type 0) (xs : List A) (i : ℕ) (d : A) → AllByRecursion P xs → i < length xs → P (get_or xs i d)
all_at P xs i d all l = each_at P xs i d all l

-- a note is the first of its position, and tells of it
pub fresh : (since : List Change) (i : ℕ) (d : Change) → Ascends since → i < length since
    → noted_before (take i since) (get_or since i d).table (get_or since i d).pos ≡ None
fresh [] i d rises l = absurd (omega arith)
fresh (note ∷ notes) zero d rises l = refl
fresh (note ∷ notes) (suc i) d rises l =
    let own : Change = get_or notes i d in
    passed note (take i notes) own.table own.pos
    (less_apart note own.table own.pos (each_at (λ (later : Change). order_of note later.table later.pos ≡ Less) notes i d rises.0 (omega arith)))
    ∙ fresh notes i d rises.1 (omega arith)

pub tells : (since : List Change) (i : ℕ) (d : Change) → Ascends since → i < length since
    → noted_before since (get_or since i d).table (get_or since i d).pos ≡ Some (get_or since i d).before
tells [] i d rises l = absurd (omega arith)
tells (note ∷ notes) zero d rises l = found note notes note.table note.pos (at_itself note note.table note.pos refl refl)
tells (note ∷ notes) (suc i) d rises l =
    let own : Change = get_or notes i d in
    passed note notes own.table own.pos
    (less_apart note own.table own.pos (each_at (λ (later : Change). order_of note later.table later.pos ≡ Less) notes i d rises.0 (omega arith)))
    ∙ tells notes i d rises.1 (omega arith)

-- over positions one after the other what is the same of each is the same
pub same_range : {A : Type 0} (f g : ℕ → A) (from many : ℕ) → ((k : ℕ) → k < many → f (from + k) ≡ g (from + k))
    → map f (range_with_len from many) ≡ map g (range_with_len from many)
same_range f g from zero same = refl
same_range {A} f g from (suc many) same =
    let first : ◌≡◌ {A = ℕ} (from + zero) from = omega arith in
    let here : f from ≡ g from = subst (λ (k : ℕ). f k ≡ g k) first (same zero (omega arith)) in
    let rest = same_range f g (from + 1) many (λ k l.
    let next : ◌≡◌ {A = ℕ} (from + suc k) ((from + 1) + k) = omega arith in subst (λ (j : ℕ). f j ≡ g j) next (same (suc k) (omega arith))) in
    λ i. here i ∷ rest i

-- the notes from one position up to another tell of these all that the notes tell
kept_tells : (table from to : ℕ) (notes : List Change) (pos : ℕ) → from ≤ pos → pos < to
    → noted_before (filter (is_between table from to) notes) table pos ≡ noted_before notes table pos
kept_tells table from to [] pos low high = refl
kept_tells table from to (note ∷ notes) pos low high = elim (cases_Bool (is_between table from to note)) [
  | inl between ↦
      ap (λ (b : Bool). noted_before (cond b (note ∷ filter (is_between table from to) notes) (filter (is_between table from to) notes)) table pos) between
      ∙ elim (cases_Bool (at note table pos)) [
        | inl here ↦ found note (filter (is_between table from to) notes) table pos here ∙ sym (found note notes table pos here)
        | inr apart ↦ passed note (filter (is_between table from to) notes) table pos apart
            ∙ (kept_tells table from to notes pos low high ∙ sym (passed note notes table pos apart))
      ]
  | inr beyond ↦
      ap (λ (b : Bool). noted_before (cond b (note ∷ filter (is_between table from to) notes) (filter (is_between table from to) notes)) table pos) beyond
      ∙ (kept_tells table from to notes pos low high
      ∙ sym (passed note notes table pos (elim (cases_Bool (at note table pos)) [
        | inr apart ↦ apart
        | inl here ↦
            let parts = and_parts (note.table == table) (note.pos == pos) here in
            let p : note.pos ≡ pos = eqb-true note.pos pos parts.1 in
            let inside : is_between table from to note ≡ true =
            λ i. parts.0 i && (le-leb from note.pos (omega (arith, low, p)) i && lt-ltb note.pos to (omega (arith, high, p)) i) in
            absurd (cc)
      ])))
]

pub chunk_tells : (table first many : ℕ) (notes : List Change)
    → map (noted_before (filter (is_between table first (first + many)) notes) table) (range_with_len first many)
    ≡ map (noted_before notes table) (range_with_len first many)
chunk_tells table first many notes =
    same_range (noted_before (filter (is_between table first (first + many)) notes) table) (noted_before notes table) first many
    (λ k l. kept_tells table first (first + many) notes (first + k) (omega arith) (omega (arith, l)))
