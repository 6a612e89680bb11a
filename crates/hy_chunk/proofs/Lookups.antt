-- Rows that are looked up by their key: a row that is seen with it is at a position that was found.
use Rattle.std.proofs.Common.{◌≡◌, ℕ, zero, suc, ◌+◌, ◌<◌, Bool, true, false, List, [], ◌∷◌}
use Rattle.std.proofs.Common.{length, get_or, None, Some, refl, sym, ap, ◌∙◌, arith, inl, inr}
use Rattle.std.specs.Prelude.{Contains}
use Rattle.std.specs.List.{AllByRecursion, list_any}
use Rattle.std.specs.declared.cmp.Ordering.{Ordering}
use Rattle.std.specs.declared.cmp.Ordering.TheVariants.{Less, Equal, Greater}
use Rattle.std.proofs.lemmas.Bool.{both_ways, cases_eq, false_from_ne_true}
use Rattle.std.proofs.lemmas.List.{get_or_default}
use Rattle.hy_value.specs.declared.Value.{Value}
use Rattle.hy_value.specs.declared.Value.TheVariants.{Null, Int, Text}
use Rattle.hy_value.specs.declared.Cmp.TheVariants.{Eq}
use Rattle.hy_value.specs.Order.{value_cmp, holds_at}
use Rattle.hy_value.specs.TotalOrder.{values_tie}
use Rattle.hy_stamp.specs.declared.Viewer.{Viewer}
use Rattle.hy_bound.specs.Predicate.{column_of, compared, is_known, truth_of, truth_at}
use Rattle.hy_plan.specs.Reads.{key_is_value}
use Rattle.hy_undo.specs.Places.{Place, Cell, sees}
use Rattle.hy_undo.specs.Chunks.{rows_seen}
use Rattle.hy_chunk.specs.Fields.{nth}
use Rattle.hy_chunk.specs.Keyed.{AreFound}
use Rattle.hy_chunk.proofs.Looks.{found_nowhere}

holds_equal : (o : Ordering) → holds_at Eq o ≡ true → o ≡ Equal
holds_equal Less e = cc
holds_equal Equal e = refl
holds_equal Greater e = cc

-- what is equal in a comparison is the same value
equal_value : (x y : Value) → is_known (compared Eq x y) ≡ true → x ≡ y
equal_value Null y e = absurd (both_ways false refl e)
equal_value (Int m) Null e = absurd (both_ways false refl e)
equal_value (Int m) (Int n) e = values_tie (Int m) (Int n) (holds_equal (value_cmp (Int m) (Int n)) e)
equal_value (Int m) (Text t) e = values_tie (Int m) (Text t) (holds_equal (value_cmp (Int m) (Text t)) e)
equal_value (Text s) Null e = absurd (both_ways false refl e)
equal_value (Text s) (Int n) e = values_tie (Text s) (Int n) (holds_equal (value_cmp (Text s) (Int n)) e)
equal_value (Text s) (Text t) e = values_tie (Text s) (Text t) (holds_equal (value_cmp (Text s) (Text t)) e)

pub key_value : (column : ℕ) (value : Value) (row : List Value) → truth_of (key_is_value column value) row ≡ true → column_of row column ≡ value
key_value column value row e = equal_value (column_of row column) value e

-- no row that is seen at the first so many positions of these passes
abbrev pub NoneOf : (Cell → Bool) → Viewer → List Place → List ℕ → ℕ → Type 0
NoneOf test viewer places found count = (j : ℕ) → j < count → test (sees viewer (nth places (get_or found j 0))) ≡ false

pub none_of_more : (test : Cell → Bool) (viewer : Viewer) (places : List Place) (found : List ℕ) (count : ℕ) → NoneOf test viewer places found count
    → test (sees viewer (nth places (get_or found count 0))) ≡ false → NoneOf test viewer places found (count + 1)
none_of_more test viewer places found count none here j l =
    elim (cases_eq j count) [
      | inl same ↦ ap (λ (k : ℕ). test (sees viewer (nth places (get_or found k 0)))) same ∙ here
      | inr other ↦ none j (omega (arith, l, other))
    ]

-- each of them is a position
pub all_within : (n : ℕ) (found : List ℕ) (k : ℕ) → AllByRecursion (λ (p : ℕ). p < n) found → k < length found → get_or found k 0 < n
all_within n [] k all l = absurd (omega arith)
all_within n (p ∷ ps) zero all l = all.0
all_within n (p ∷ ps) (suc k) all l = all_within n ps k all.1 (omega arith)

passes_of : (column : ℕ) (value : Value) (viewer : Viewer) (places : List Place) (k : ℕ) (cell : Cell) → sees viewer (nth places k) ≡ cell
    → truth_at (key_is_value column value) cell ≡ true → (found : List ℕ) → AreFound column value places found → k < length places → Contains found k
passes_of column value viewer places k None is e found all l = absurd (both_ways false refl e)
passes_of column value viewer places k (Some row) is e found all l = all viewer k row l is (key_value column value row e)

-- where no found position has it, no position has
pub none_found : (column : ℕ) (value : Value) (viewer : Viewer) (places : List Place) (found : List ℕ) → AreFound column value places found
    → NoneOf (truth_at (key_is_value column value)) viewer places found (length found)
    → list_any (truth_at (key_is_value column value)) (rows_seen viewer places) ≡ false
none_found column value viewer places found all none =
    found_nowhere (truth_at (key_is_value column value)) viewer places (λ k l.
    false_from_ne_true (truth_at (key_is_value column value) (sees viewer (nth places k))) (λ yes_it_is.
    let c = passes_of column value viewer places k (sees viewer (nth places k)) refl yes_it_is found all l in
    let there : get_or found c.0 0 ≡ k = get_or_default found c.0 0 k c.1 ∙ c.2 in
    both_ways (truth_at (key_is_value column value) (sees viewer (nth places k)))
    (ap (λ (j : ℕ). truth_at (key_is_value column value) (sees viewer (nth places j))) (sym there) ∙ none c.0 c.1) yes_it_is))
