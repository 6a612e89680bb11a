-- A sweep over the positions, one after the other.
use Rattle.std.proofs.Common.{◌≡◌, ℕ, zero, suc, ◌+◌, ◌-◌, ◌<◌, ◌≤◌, Bool, true, false, List, [], ◌∷◌, length}
use Rattle.std.proofs.Common.{drop, Option, None, Some, Result, Ok, Err, refl, sym, ap, ◌∙◌, cond, subst, arith}
use Rattle.std.specs.Prelude.{is_some, count_by}
use Rattle.std.proofs.lemmas.List.{at_drop_more, at_drop_all}
use Rattle.std.proofs.lemmas.List.Sums.{sum_by-cons}
use Rattle.hy_notes.specs.Notes.{with_note}
use Rattle.hy_value.specs.declared.Value.{Value}
use Rattle.hy_stamp.specs.declared.Label.{Label}
use Rattle.hy_stamp.specs.declared.Viewer.{Viewer}
use Rattle.hy_bound.specs.Condition.{Condition}
use Rattle.hy_bound.specs.declared.Assign.{Assign}
use Rattle.hy_bound.specs.Predicate.{truth_at}
use Rattle.hy_value.specs.declared.change.Change.{Change}
use Rattle.hy_chain.specs.Chains.{Undo, rival, seen, stops}
use Rattle.hy_undo.specs.declared.refusal.Refusal.{Refusal}
use Rattle.hy_undo.specs.declared.version.Version.{Version}
use Rattle.hy_undo.specs.Images.{Image, before}
use Rattle.hy_undo.specs.Places.{Place, Cell, sees, cell_of}
use Rattle.hy_undo.specs.Chunks.{Written}
use Rattle.hy_undo.specs.Sweeps.{verdict, judged, new_cell, and_new, swept, AllWritten}
use Rattle.hy_chunk.specs.Fields.{nth, blank_with}
use Rattle.std.specs.List.{AllByRecursion}
use Rattle.std.proofs.lemmas.Bool.{cases_eq, cases_lt}
use Rattle.std.proofs.Common.{inl, inr}
use Rattle.hy_value.specs.declared.Kind.{Kind}
use Rattle.hy_chunk.specs.declared.writes.RowWrite.{RowWrite}
use Rattle.hy_chunk.specs.declared.writes.RowWrite.TheVariants.{Set, Delete}
use Rattle.hy_chunk.specs.Writes.{FitsSets, FitsWrite, SetColumns, judged_at, refusal_in, WrittenAs, notes_with, IsDone}

not_here : (v : Result (Option Cell) Refusal) (rest : Result (List (Option Cell)) Refusal) → None ≡ refusal_in v → refusal_in (and_new v rest) ≡ refusal_in rest
not_here (Ok cell) (Ok cells) e = refl
not_here (Ok cell) (Err refusal) e = refl
not_here (Err other) rest e = absurd (cc)

module _ (sets : Option (List Assign)) (pred : Condition) (viewer : Viewer) (first : ℕ) (places : List Place) where
  abbrev from : ℕ → Option Refusal
  from count = refusal_in (swept sets pred viewer (first + count) (drop count places))

  step : (count : ℕ) → count < length places
      → from count ≡ refusal_in (and_new (judged_at sets pred viewer (first + count) (nth places count))
      (swept sets pred viewer (suc (first + count)) (drop (count + 1) places)))
  step count l = at_drop_more (λ (rest : List Place). refusal_in (swept sets pred viewer (first + count) rest)) places count (blank_with []) l

  next_number : (count : ℕ) → suc (first + count) ≡ first + (count + 1)
  next_number count = let e : ◌≡◌ {A = ℕ} (suc (first + count)) (first + (count + 1)) = omega arith in e

  pub goes_on : (count : ℕ) → count < length places → None ≡ refusal_in (judged_at sets pred viewer (first + count) (nth places count))
      → from (count + 1) ≡ from count
  goes_on count l e =
      ap (λ (n : ℕ). refusal_in (swept sets pred viewer n (drop (count + 1) places))) (sym (next_number count))
      ∙ sym (step count l ∙ not_here (judged_at sets pred viewer (first + count) (nth places count))
      (swept sets pred viewer (suc (first + count)) (drop (count + 1) places)) e)

-- what stays from each position to the one behind it stays over many
same_past : {X : Type 0} (reads : ℕ → X) (from next : ℕ) → from ≤ next → ((k : ℕ) → from ≤ k → k < next → reads (k + 1) ≡ reads k) → reads next ≡ reads from
same_past {X} reads from next le step = let all : from + (next - from) ≡ next = omega (arith, le) in ap reads (sym all) ∙ over (next - from) (omega (arith, le))
  where
    over : (gap : ℕ) → from + gap ≤ next → reads (from + gap) ≡ reads from
    over zero l = let none : ◌≡◌ {A = ℕ} (from + zero) from = omega arith in ap reads none
    over (suc gap) l =
        let more : ◌≡◌ {A = ℕ} (from + suc gap) ((from + gap) + 1) = omega arith in
        ap reads more ∙ (step (from + gap) (omega arith) (omega (arith, l)) ∙ over gap (omega (arith, l)))

-- a viewer whose write is in conflict with nobody sees what is in place
pub sees_in_place : (viewer : Viewer) (version : Version) (chain : List (Undo Image)) → rival viewer chain ≡ None → seen before viewer version chain ≡ version
sees_in_place viewer version [] e = refl
sees_in_place viewer version (undo ∷ rest) e =
    elim (stops viewer undo.stamp.mark) as (λ (b : Bool). cond b None (Some undo.stamp.owner) ≡ None
    → cond b version (seen before viewer (before undo.image version) rest) ≡ version) [
      | true ↦ λ f. refl
      | false ↦ λ f. absurd (cc)
    ] e

-- what is judged of a version
pub no_row : (sets : Option (List Assign)) (pred : Condition) (pos : ℕ) (other : Option Label) (cell : Cell) → truth_at pred cell ≡ false
    → verdict sets pred pos other cell ≡ Ok None
no_row sets pred pos other None e = refl
no_row sets pred pos other (Some row) e = ap (λ (b : Bool). cond b (judged pos other (new_cell sets row)) (Ok None)) e

live_by : (pred : Condition) (row : List Value) (live : Bool) → truth_at pred (cond live (Some row) None) ≡ true → live ≡ true
live_by pred row true e = refl
live_by pred row false e = absurd (cc)

a_row : (sets : Option (List Assign)) (pred : Condition) (pos : ℕ) (other : Option Label) (row : List Value) (live : Bool)
    → truth_at pred (cond live (Some row) None) ≡ true
    → verdict sets pred pos other (cond live (Some row) None) ≡ judged pos other (new_cell sets row)
a_row sets pred pos other row true e = ap (λ (b : Bool). cond b (judged pos other (new_cell sets row)) (Ok None)) e
a_row sets pred pos other row false e = absurd (cc)

no_rival : (pos : ℕ) (other : Option Label) (cell : Option Cell) → refusal_in (judged pos other cell) ≡ None → other ≡ None
no_rival pos None cell e = refl
no_rival pos (Some label) cell e = absurd (cc)

in_range_by : (pos : ℕ) (other : Option Label) (cell : Option Cell) → refusal_in (judged pos other cell) ≡ None → is_some cell ≡ true
in_range_by pos None (Some cell) e = refl
in_range_by pos None None e = absurd (cc)
in_range_by pos (Some label) cell e = absurd (cc)

module _ (sets : Option (List Assign)) (pred : Condition) (viewer : Viewer) (pos : ℕ) (p : Place) (version : Version)
    (is : version ≡ seen before viewer p.version p.chain) where
  told : judged_at sets pred viewer pos p ≡ verdict sets pred pos (rival viewer p.chain) (cell_of version)
  told = ap (λ (v : Version). verdict sets pred pos (rival viewer p.chain) (cell_of v)) (sym is)

  pub unselected : truth_at pred (cell_of version) ≡ false → judged_at sets pred viewer pos p ≡ Ok None
  unselected e = told ∙ no_row sets pred pos (rival viewer p.chain) (cell_of version) e

  module _ (yes : truth_at pred (cell_of version) ≡ true) where
    judges : judged_at sets pred viewer pos p ≡ judged pos (rival viewer p.chain) (new_cell sets version.row)
    judges = told ∙ a_row sets pred pos (rival viewer p.chain) version.row version.live yes

    pub is_live : version.live ≡ true
    is_live = live_by pred version.row version.live yes

    pub new_judged : (cell : Cell) → rival viewer p.chain ≡ None → new_cell sets version.row ≡ Some cell → judged_at sets pred viewer pos p ≡ Ok (Some cell)
    new_judged cell none made = judges ∙ λ i. judged pos (none i) (made i)

    module _ (ok : refusal_in (judged_at sets pred viewer pos p) ≡ None) where
      pub without_rival : rival viewer p.chain ≡ None
      without_rival = no_rival pos (rival viewer p.chain) (new_cell sets version.row)
          (sym (ap (λ (v : Result (Option Cell) Refusal). refusal_in v) judges) ∙ ok)

      pub is_in_range : is_some (new_cell sets version.row) ≡ true
      is_in_range = in_range_by pos (rival viewer p.chain) (new_cell sets version.row)
          (sym (ap (λ (v : Result (Option Cell) Refusal). refusal_in v) judges) ∙ ok)

      pub is_in_place : version ≡ p.version
      is_in_place = is ∙ sees_in_place viewer p.version p.chain without_rival

-- what is counted of all cells that are left
abbrev pub counted_of : Result (List (Option Cell)) Refusal → ℕ
counted_of (Err refusal) = 0
counted_of (Ok cells) = count_by is_some cells

abbrev pub AllWrittenAs : Viewer → Label → Result (List (Option Cell)) Refusal → List Place → List Place → Type 0
AllWrittenAs viewer label (Err refusal) olds news = ⊥
AllWrittenAs viewer label (Ok cells) olds news = AllWritten viewer label cells olds news

both_ok : (v : Result (Option Cell) Refusal) (rest : Result (List (Option Cell)) Refusal) → refusal_in (and_new v rest) ≡ None
    → (refusal_in v ≡ None) × (refusal_in rest ≡ None)
both_ok (Ok cell) (Ok cells) e = (refl, refl)
both_ok (Ok cell) (Err refusal) e = absurd (cc)
both_ok (Err refusal) rest e = absurd (cc)

noted_none : (table pos : ℕ) (viewer : Viewer) (rest : Result (List (Option Cell)) Refusal) (p : Place) (ps : List Place) (notes : List Change)
    → notes_with table pos viewer (and_new (Ok None) rest) (p ∷ ps) notes ≡ notes_with table (suc pos) viewer rest ps notes
noted_none table pos viewer (Ok cells) p ps notes = refl
noted_none table pos viewer (Err refusal) p ps notes = refl

noted_some : (table pos : ℕ) (viewer : Viewer) (cell : Cell) (rest : Result (List (Option Cell)) Refusal) (p : Place) (ps : List Place)
    (notes : List Change) → refusal_in rest ≡ None
    → notes_with table pos viewer (and_new (Ok (Some cell)) rest) (p ∷ ps) notes
    ≡ notes_with table (suc pos) viewer rest ps (with_note (record { table = table; pos = pos; before = sees viewer p; after = cell }) notes)
noted_some table pos viewer cell (Ok cells) p ps notes e = refl
noted_some table pos viewer cell (Err refusal) p ps notes e = absurd (cc)

counted_none : (rest : Result (List (Option Cell)) Refusal) → counted_of (and_new (Ok None) rest) ≡ counted_of rest
counted_none (Ok cells) = let e = sum_by-cons (λ (c : Option Cell). cond (is_some c) 1 0) None cells in omega (arith, e)
counted_none (Err refusal) = refl

counted_some : (cell : Cell) (rest : Result (List (Option Cell)) Refusal) → refusal_in rest ≡ None
    → counted_of (and_new (Ok (Some cell)) rest) ≡ 1 + counted_of rest
counted_some cell (Ok cells) e = let s = sum_by-cons (λ (c : Option Cell). cond (is_some c) 1 0) (Some cell) cells in omega (arith, s)
counted_some cell (Err refusal) e = absurd (cc)

module _ (sets : Option (List Assign)) (pred : Condition) (viewer : Viewer) (table first : ℕ) (places : List Place) (count : ℕ) (l : count < length places)
    (ok : refusal_in (swept sets pred viewer (first + count) (drop count places)) ≡ None) where
  abbrev here : Result (Option Cell) Refusal
  here = judged_at sets pred viewer (first + count) (nth places count)

  abbrev left : ℕ → Result (List (Option Cell)) Refusal
  left n = swept sets pred viewer n (drop (count + 1) places)

  unfolds : {Y : Type 0} (reads : Result (List (Option Cell)) Refusal → List Place → Y)
      → reads (swept sets pred viewer (first + count) (drop count places)) (drop count places)
      ≡ reads (and_new here (left (suc (first + count)))) (nth places count ∷ drop (count + 1) places)
  unfolds reads = at_drop_more (λ (rest : List Place). reads (swept sets pred viewer (first + count) rest) rest) places count (blank_with []) l

  both : (refusal_in here ≡ None) × (refusal_in (left (suc (first + count))) ≡ None)
  both = both_ok here (left (suc (first + count))) (sym (unfolds (λ r ps. refusal_in r)) ∙ ok)

  after : suc (first + count) ≡ first + (count + 1)
  after = next_number sets pred viewer first places count

  pub here_ok : refusal_in here ≡ None
  here_ok = both.0

  pub left_ok : refusal_in (swept sets pred viewer (first + (count + 1)) (drop (count + 1) places)) ≡ None
  left_ok = ap (λ (n : ℕ). refusal_in (left n)) (sym after) ∙ both.1

  module _ (none : here ≡ Ok None) (notes : List Change) where
    pub unnoted : notes_with table (first + count) viewer (swept sets pred viewer (first + count) (drop count places)) (drop count places) notes
        ≡ notes_with table (first + (count + 1)) viewer (left (first + (count + 1))) (drop (count + 1) places) notes
    unnoted = unfolds (λ r ps. notes_with table (first + count) viewer r ps notes)
        ∙ (ap (λ (v : Result (Option Cell) Refusal). notes_with table (first + count) viewer (and_new v (left (suc (first + count))))
        (nth places count ∷ drop (count + 1) places) notes) none
        ∙ (noted_none table (first + count) viewer (left (suc (first + count))) (nth places count) (drop (count + 1) places) notes
        ∙ ap (λ (n : ℕ). notes_with table n viewer (left n) (drop (count + 1) places) notes) after))

    pub uncounted : counted_of (swept sets pred viewer (first + count) (drop count places)) ≡ counted_of (left (first + (count + 1)))
    uncounted = unfolds (λ r ps. counted_of r)
        ∙ (ap (λ (v : Result (Option Cell) Refusal). counted_of (and_new v (left (suc (first + count))))) none
        ∙ (counted_none (left (suc (first + count))) ∙ ap (λ (n : ℕ). counted_of (left n)) after))

  module _ (cell : Cell) (some : here ≡ Ok (Some cell)) (notes : List Change) where
    pub noted : notes_with table (first + count) viewer (swept sets pred viewer (first + count) (drop count places)) (drop count places) notes
        ≡ notes_with table (first + (count + 1)) viewer (left (first + (count + 1))) (drop (count + 1) places)
        (with_note (record { table = table; pos = first + count; before = sees viewer (nth places count); after = cell }) notes)
    noted = unfolds (λ r ps. notes_with table (first + count) viewer r ps notes)
        ∙ (ap (λ (v : Result (Option Cell) Refusal). notes_with table (first + count) viewer (and_new v (left (suc (first + count))))
        (nth places count ∷ drop (count + 1) places) notes) some
        ∙ (noted_some table (first + count) viewer cell (left (suc (first + count))) (nth places count) (drop (count + 1) places) notes both.1
        ∙ ap (λ (n : ℕ). notes_with table n viewer (left n) (drop (count + 1) places)
        (with_note (record { table = table; pos = first + count; before = sees viewer (nth places count); after = cell }) notes)) after))

    pub counted : counted_of (swept sets pred viewer (first + count) (drop count places)) ≡ 1 + counted_of (left (first + (count + 1)))
    counted = unfolds (λ r ps. counted_of r)
        ∙ (ap (λ (v : Result (Option Cell) Refusal). counted_of (and_new v (left (suc (first + count))))) some
        ∙ (counted_some cell (left (suc (first + count))) both.1 ∙ ap (λ (n : ℕ). 1 + counted_of (left n)) after))

module _ (sets : Option (List Assign)) (pred : Condition) (viewer : Viewer) (first : ℕ) (places : List Place) (from next : ℕ) (le : from ≤ next)
    (within : next ≤ length places)
    (none : (k : ℕ) → from ≤ k → k < next → judged_at sets pred viewer (first + k) (nth places k) ≡ Ok None) where
  abbrev rest_at : ℕ → Result (List (Option Cell)) Refusal
  rest_at k = swept sets pred viewer (first + k) (drop k places)

  refused_to : (k : ℕ) → from ≤ k → k ≤ next → refusal_in (rest_at k) ≡ refusal_in (rest_at from)
  refused_to k low high = same_past (λ (j : ℕ). refusal_in (rest_at j)) from k low (λ j l m.
      goes_on sets pred viewer first places j (omega (arith, m, high, within))
      (sym (ap (λ (v : Result (Option Cell) Refusal). refusal_in v) (none j l (omega (arith, m, high))))))

  pub refused_past : refusal_in (rest_at next) ≡ refusal_in (rest_at from)
  refused_past = refused_to next le (omega arith)

  module _ (table : ℕ) (ok : refusal_in (rest_at from) ≡ None) where
    pub noted_past : (notes : List Change) → notes_with table (first + next) viewer (rest_at next) (drop next places) notes
        ≡ notes_with table (first + from) viewer (rest_at from) (drop from places) notes
    noted_past notes = same_past (λ (j : ℕ). notes_with table (first + j) viewer (rest_at j) (drop j places) notes) from next le (λ j l m.
        sym (unnoted sets pred viewer table first places j (omega (arith, m, within)) (refused_to j l (omega (arith, m)) ∙ ok) (none j l m) notes))

    pub counted_past : counted_of (rest_at next) ≡ counted_of (rest_at from)
    counted_past = same_past (λ (j : ℕ). counted_of (rest_at j)) from next le (λ j l m.
        sym (uncounted sets pred viewer table first places j (omega (arith, m, within)) (refused_to j l (omega (arith, m)) ∙ ok) (none j l m) []))

-- what holds of the positions so far and of those that are passed over holds of all of them
pub done_past : (has : ℕ → Type 0) (from next : ℕ) → ((k : ℕ) → k < from → has k) → ((k : ℕ) → from ≤ k → k < next → has k) → (k : ℕ) → k < next → has k
done_past has from next before between k l = elim (cases_lt k from) [
  | inl low ↦ before k low
  | inr high ↦ between k high l
]

written_by : (viewer : Viewer) (label : Label) (v : Result (Option Cell) Refusal) (rest : Result (List (Option Cell)) Refusal) (old new : Place)
    (olds news : List Place)
    → refusal_in (and_new v rest) ≡ None → WrittenAs viewer label v old new → (refusal_in rest ≡ None → AllWrittenAs viewer label rest olds news)
    → AllWrittenAs viewer label (and_new v rest) (old ∷ olds) (new ∷ news)
written_by viewer label (Ok None) (Ok cells) old new olds news e w r = (w, r refl)
written_by viewer label (Ok (Some cell)) (Ok cells) old new olds news e w r = (w, r refl)
written_by viewer label (Ok None) (Err refusal) old new olds news e w r = absurd (cc)
written_by viewer label (Ok (Some cell)) (Err refusal) old new olds news e w r = absurd (cc)
written_by viewer label (Err refusal) rest old new olds news e w r = absurd w

pub all_written : (sets : Option (List Assign)) (pred : Condition) (viewer : Viewer) (label : Label) (pos : ℕ) (olds news : List Place)
    → refusal_in (swept sets pred viewer pos olds) ≡ None
    → length news ≡ length olds → ((i : ℕ) → i < length olds
    → WrittenAs viewer label (judged_at sets pred viewer (pos + i) (nth olds i)) (nth olds i) (nth news i))
    → AllWrittenAs viewer label (swept sets pred viewer pos olds) olds news
all_written sets pred viewer label pos [] [] ok size each = tt
all_written sets pred viewer label pos [] (new ∷ news) ok size each = absurd (omega arith)
all_written sets pred viewer label pos (old ∷ olds) [] ok size each = absurd (omega arith)
all_written sets pred viewer label pos (old ∷ olds) (new ∷ news) ok size each =
    let zero_number : ◌≡◌ {A = ℕ} (pos + zero) pos = omega arith in
    written_by viewer label (judged_at sets pred viewer pos old) (swept sets pred viewer (suc pos) olds) old new olds news ok
    (subst (λ (n : ℕ). WrittenAs viewer label (judged_at sets pred viewer n old) old new) zero_number (each zero (omega arith)))
    (λ rest_ok. all_written sets pred viewer label (suc pos) olds news rest_ok (omega arith)
    (λ i l. let number : ◌≡◌ {A = ℕ} (pos + suc i) (suc pos + i) = omega arith in
    subst (λ (n : ℕ). WrittenAs viewer label (judged_at sets pred viewer n (nth olds i)) (nth olds i) (nth news i)) number (each (suc i) (omega arith))))

done_by : (viewer : Viewer) (label : Label) (table first : ℕ) (r : Result (List (Option Cell)) Refusal) (olds news : List Place)
    (notes now : List Change) (count : ℕ)
    → AllWrittenAs viewer label r olds news → now ≡ notes_with table first viewer r olds notes → count ≡ counted_of r
    → IsDone viewer label table first r olds news notes now count
done_by viewer label table first (Err refusal) olds news notes now count w n c = absurd w
done_by viewer label table first (Ok cells) olds news notes now count w n c = record { written = w; noted = n; counted = c }

-- after the last position
pub all_done : (sets : Option (List Assign)) (pred : Condition) (viewer : Viewer) (label : Label) (table first : ℕ) (olds news : List Place)
    (notes now : List Change) (written place : ℕ)
    → length olds ≤ place → AllWrittenAs viewer label (swept sets pred viewer first olds) olds news
    → notes_with table (first + place) viewer (swept sets pred viewer (first + place) (drop place olds)) (drop place olds) now ≡ notes_with table first
    viewer (swept sets pred viewer first olds) olds notes
    → written + counted_of (swept sets pred viewer (first + place) (drop place olds)) ≡ counted_of (swept sets pred viewer first olds)
    → IsDone viewer label table first (swept sets pred viewer first olds) olds news notes now written
all_done sets pred viewer label table first olds news notes now written place end w n c =
    let last : counted_of (swept sets pred viewer (first + place) (drop place olds)) ≡ 0 = at_drop_all
    (λ (rest : List Place). counted_of (swept sets pred viewer (first + place) rest)) olds place end in
    done_by viewer label table first (swept sets pred viewer first olds) olds news notes now written w
    (sym (at_drop_all (λ (rest : List Place). notes_with table (first + place) viewer (swept sets pred viewer (first + place) rest) rest now) olds
    place end) ∙ n) (omega (arith, c, last))

-- one position more is as it was judged
pub done_more : (has : ℕ → Type 0) (count : ℕ) → ((k : ℕ) → k < count → has k) → has count → (k : ℕ) → k < count + 1 → has k
done_more has count before here k l =
    elim (cases_eq k count) [
      | inl same ↦ subst has (sym same) here
      | inr other ↦ before k (omega (arith, l, other))
    ]

pub as_none : (viewer : Viewer) (label : Label) (v : Result (Option Cell) Refusal) (old new : Place) → v ≡ Ok None → new ≡ old
    → WrittenAs viewer label v old new
as_none viewer label v old new is same = subst (λ (x : Result (Option Cell) Refusal). WrittenAs viewer label x old new) (sym is) same

pub as_some : (viewer : Viewer) (label : Label) (v : Result (Option Cell) Refusal) (cell : Cell) (old now new : Place) → v ≡ Ok (Some cell)
    → now ≡ old → Written viewer label cell now new → WrittenAs viewer label v old new
as_some viewer label v cell old now new is same w =
    subst (λ (x : Result (Option Cell) Refusal). WrittenAs viewer label x old new) (sym is) (subst (λ (p : Place). Written viewer label cell p new) same w)

columns_of_sets : (kinds : List Kind) (key : Option ℕ) (sets : List Assign) (width : ℕ) → width ≡ length kinds → FitsSets kinds key sets
    → AllByRecursion (λ (assign : Assign). assign.column < width) sets
columns_of_sets kinds key [] width e f = tt
columns_of_sets kinds key (assign ∷ sets) width e f = (subst (λ (n : ℕ). assign.column < n) (sym e) f.0.column, columns_of_sets kinds key sets width e f.1)

pub sets_within : (kinds : List Kind) (key : Option ℕ) (kind : RowWrite) (width : ℕ) → width ≡ length kinds → FitsWrite kinds key kind → SetColumns width kind
sets_within kinds key (Set sets) width e f = columns_of_sets kinds key sets.now width e f
sets_within kinds key Delete width e f = tt
