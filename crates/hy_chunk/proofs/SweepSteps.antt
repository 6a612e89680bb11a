-- The steps of a sweep that writes: a position is written as it was judged, and where nothing is judged it is passed.
use Rattle.std.proofs.Common.{◌≡◌, ℕ, ◌+◌, ◌<◌, ◌≤◌, List, [], length, drop, map, Option, None, Some, Result, Ok, refl, sym, ap, ◌∙◌, subst, arith}
use Rattle.std.proofs.Math.ListN.{set}
use Rattle.std.proofs.lemmas.Simd.{map-map}
use Rattle.std.proofs.lemmas.List.{at_drop_all, length-set, get_or-set_other, map-id}
use Rattle.hy_stamp.specs.declared.Label.{Label}
use Rattle.hy_stamp.specs.declared.Viewer.{Viewer}
use Rattle.hy_value.specs.declared.change.Change.{Change}
use Rattle.hy_bound.specs.Condition.{Condition}
use Rattle.hy_bound.specs.declared.Assign.{Assign}
use Rattle.hy_notes.specs.Notes.{with_note}
use Rattle.hy_undo.specs.declared.refusal.Refusal.{Refusal}
use Rattle.hy_undo.specs.Places.{Place, Cell, sees}
use Rattle.hy_undo.specs.Chunks.{Written}
use Rattle.hy_undo.specs.Sweeps.{swept}
use Rattle.hy_chunk.specs.Fields.{nth, blank_with}
use Rattle.hy_chunk.specs.Writes.{judged_at, notes_with, refusal_in, WrittenAs, IsDone}
use Rattle.hy_chunk.proofs.Sweeping.{counted_of, left_ok, noted, counted, refused_past, noted_past, counted_past}
use Rattle.hy_chunk.proofs.Sweeping.{done_past, done_more, as_none, as_some, all_written, all_done}

-- the first so many positions are written as they were judged, and the others are as they were
pub record SweptTo (sets : Option (List Assign)) (pred : Condition) (viewer : Viewer) (label : Label) (table first : ℕ) (olds : List Place)
    (notes : List Change) (news : List Place) (now : List Change) (written place : ℕ) : Type 0 where
  pub size : length news ≡ length olds
  pub ok : refusal_in (swept sets pred viewer (first + place) (drop place olds)) ≡ None
  pub done : (k : ℕ) → k < place → WrittenAs viewer label (judged_at sets pred viewer (first + k) (nth olds k)) (nth olds k) (nth news k)
  pub rest : (k : ℕ) → place ≤ k → nth news k ≡ nth olds k
  pub told : notes_with table (first + place) viewer (swept sets pred viewer (first + place) (drop place olds)) (drop place olds) now
      ≡ notes_with table first viewer (swept sets pred viewer first olds) olds notes
  pub count : written + counted_of (swept sets pred viewer (first + place) (drop place olds)) ≡ counted_of (swept sets pred viewer first olds)
  pub few : written ≤ place

module _ (sets : Option (List Assign)) (pred : Condition) (viewer : Viewer) (label : Label) (table first : ℕ) (olds : List Place) (notes : List Change) where
  abbrev judged_here : ℕ → Result (Option Cell) Refusal
  judged_here k = judged_at sets pred viewer (first + k) (nth olds k)

  pub swept_none : refusal_in (swept sets pred viewer first olds) ≡ None → SweptTo sets pred viewer label table first olds notes olds notes 0 0
  swept_none ok =
      let none_first : ◌≡◌ {A = ℕ} (first + 0) first = omega arith in
      let none_counted : counted_of (swept sets pred viewer (first + 0) olds) ≡ counted_of (swept sets pred viewer first olds) =
      ap (λ (n : ℕ). counted_of (swept sets pred viewer n olds)) none_first in
      record {
        size = refl;
        ok = ap (λ (n : ℕ). refusal_in (swept sets pred viewer n olds)) none_first ∙ ok;
        done = λ k l. absurd (omega (arith, l));
        rest = λ k l. refl;
        told = ap (λ (n : ℕ). notes_with table n viewer (swept sets pred viewer n olds) olds notes) none_first;
        count = omega (arith, none_counted);
        few = omega arith;
      }

  pub swept_past : (news : List Place) (now : List Change) (written from next : ℕ) → from ≤ next → next ≤ length olds
      → ((k : ℕ) → from ≤ k → k < next → judged_here k ≡ Ok None)
      → SweptTo sets pred viewer label table first olds notes news now written from → SweptTo sets pred viewer label table first olds notes news now written next
  swept_past news now written from next le within none was =
      let has : ℕ → Type 0 = λ k. WrittenAs viewer label (judged_here k) (nth olds k) (nth news k) in
      let more = counted_past sets pred viewer first olds from next le within none table was.ok in
      record {
        size = was.size;
        ok = refused_past sets pred viewer first olds from next le within none ∙ was.ok;
        done = done_past has from next was.done (λ k l m. as_none viewer label (judged_here k) (nth olds k) (nth news k) (none k l m) (was.rest k l));
        rest = λ k l. was.rest k (omega (arith, l, le));
        told = noted_past sets pred viewer first olds from next le within none table was.ok now ∙ was.told;
        count = omega (arith, was.count, more);
        few = (let few = was.few in omega (arith, few, le));
      }

  pub swept_one : (news after : List Place) (now then : List Change) (written k : ℕ) (cell : Cell) → k < length olds → judged_here k ≡ Ok (Some cell)
      → after ≡ set news k (nth after k) → Written viewer label cell (nth news k) (nth after k)
      → then ≡ with_note (record { table = table; pos = first + k; before = sees viewer (nth olds k); after = cell }) now
      → SweptTo sets pred viewer label table first olds notes news now written k
      → SweptTo sets pred viewer label table first olds notes after then (written + 1) (k + 1)
  swept_one news after now then written k cell l some puts did is was =
      let has : ℕ → Type 0 = λ j. WrittenAs viewer label (judged_here j) (nth olds j) (nth after j) in
      let stays : (j : ℕ) → (j ≡ k → ⊥) → nth after j ≡ nth news j = λ j ne. ap (λ (ps : List Place). nth ps j) puts
      ∙ get_or-set_other news k j (nth after k) (blank_with []) ne in
      let e = counted sets pred viewer table first olds k l was.ok cell some now in
      record {
        size = ap (λ (ps : List Place). length ps) puts ∙ (length-set news k (nth after k) ∙ was.size);
        ok = left_ok sets pred viewer table first olds k l was.ok;
        done = done_more has k
            (λ j m. subst (λ (q : Place). WrittenAs viewer label (judged_here j) (nth olds j) q) (sym (stays j (λ eq. absurd (omega (arith, eq, m)))))
            (was.done j m))
            (as_some viewer label (judged_here k) cell (nth olds k) (nth news k) (nth after k) some (was.rest k (omega arith)) did);
        rest = λ j m. stays j (λ eq. absurd (omega (arith, eq, m))) ∙ was.rest j (omega (arith, m));
        told = ap (λ (list : List Change). notes_with table (first + (k + 1)) viewer (swept sets pred viewer (first + (k + 1)) (drop (k + 1) olds))
            (drop (k + 1) olds) list) is
            ∙ (sym (noted sets pred viewer table first olds k l was.ok cell some now) ∙ was.told);
        count = omega (arith, was.count, e);
        few = (let few = was.few in omega (arith, few));
      }

  pub swept_all : (news : List Place) (now : List Change) (written place : ℕ) → length olds ≤ place → refusal_in (swept sets pred viewer first olds) ≡ None
      → SweptTo sets pred viewer label table first olds notes news now written place
      → IsDone viewer label table first (swept sets pred viewer first olds) olds news notes now written
  swept_all news now written place end ok was =
      all_done sets pred viewer label table first olds news notes now written place end
      (all_written sets pred viewer label first olds news ok was.size (λ k l. was.done k (omega (arith, l, end)))) was.told was.count

  -- in each level, too, what is noted so far with all that is left is what is noted of all positions
  abbrev pub InLevels : List (List Change) → List (List Change) → ℕ → Type 0
  InLevels levels nows place =
      map (notes_with table (first + place) viewer (swept sets pred viewer (first + place) (drop place olds)) (drop place olds)) nows
      ≡ map (notes_with table first viewer (swept sets pred viewer first olds) olds) levels

  pub levels_none : (levels : List (List Change)) → InLevels levels levels 0
  levels_none levels =
      let none_first : ◌≡◌ {A = ℕ} (first + 0) first = omega arith in
      ap (λ (n : ℕ). map (notes_with table n viewer (swept sets pred viewer n olds) olds) levels) none_first

  pub levels_past : (levels nows : List (List Change)) (from next : ℕ) → from ≤ next → next ≤ length olds
      → ((k : ℕ) → from ≤ k → k < next → judged_here k ≡ Ok None) → refusal_in (swept sets pred viewer (first + from) (drop from olds)) ≡ None
      → InLevels levels nows from → InLevels levels nows next
  levels_past levels nows from next le within none ok was =
      (λ i. map (λ (list : List Change). noted_past sets pred viewer first olds from next le within none table ok list i) nows) ∙ was

  pub levels_one : (levels nows thens : List (List Change)) (k : ℕ) (cell : Cell) → k < length olds → judged_here k ≡ Ok (Some cell)
      → refusal_in (swept sets pred viewer (first + k) (drop k olds)) ≡ None
      → thens ≡ map (with_note (record { table = table; pos = first + k; before = sees viewer (nth olds k); after = cell })) nows
      → InLevels levels nows k → InLevels levels thens (k + 1)
  levels_one levels nows thens k cell l some ok is was =
      let note : List Change → List Change = with_note (record { table = table; pos = first + k; before = sees viewer (nth olds k); after = cell }) in
      let rest : List Change → List Change = notes_with table (first + (k + 1)) viewer (swept sets pred viewer (first + (k + 1)) (drop (k + 1) olds)) (drop (k + 1) olds) in
      ap (map rest) is
      ∙ (map-map rest note nows
      ∙ ((λ i. map (λ (list : List Change). sym (noted sets pred viewer table first olds k l ok cell some list) i) nows) ∙ was))

  pub levels_all : (levels nows : List (List Change)) (place : ℕ) → length olds ≤ place → InLevels levels nows place
      → nows ≡ map (notes_with table first viewer (swept sets pred viewer first olds) olds) levels
  levels_all levels nows place end was =
      let none : (list : List Change)
      → notes_with table (first + place) viewer (swept sets pred viewer (first + place) (drop place olds)) (drop place olds) list ≡ list =
      λ list. at_drop_all (λ (rest : List Place). notes_with table (first + place) viewer (swept sets pred viewer (first + place) rest) rest list) olds place end in
      sym ((λ i. map (λ (list : List Change). none list i) nows) ∙ map-id nows) ∙ was
