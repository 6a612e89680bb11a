-- Positions that are found for one key after the other.
use Rattle.std.proofs.Common.{◌≡◌, ℕ, zero, suc, ◌+◌, ◌<◌, ◌≤◌, List, [], ◌∷◌, ◌++◌, length, get_or, sym, ap, ◌∙◌, subst, arith, inl, inr}
use Rattle.std.specs.Prelude.{Contains}
use Rattle.std.specs.List.{AllByRecursion}
use Rattle.std.proofs.lemmas.Bool.{cases_eq}
use Rattle.std.proofs.lemmas.List.{get_or_default}
use Rattle.std.proofs.lemmas.List.Elements.{Contains-append_left, Contains-append_right, Contains-append_cases}
use Rattle.hy_value.specs.declared.Value.{Value}
use Rattle.hy_value.specs.declared.Value.TheVariants.{Null}
use Rattle.hy_undo.specs.Places.{Place}
use Rattle.hy_chunk.specs.Keyed.{AreFound}

-- each of the first so many keys is looked up, and what is found are positions
pub record FoundFor (column : ℕ) (values : List Value) (places : List Place) (found : List ℕ) (count : ℕ) : Type 0 where
  pub all : (j : ℕ) → j < count → AreFound column (get_or values j Null) places found
  pub within : (place : ℕ) → Contains found place → place < length places

pub places_within : (n : ℕ) (found : List ℕ) (place : ℕ) → AllByRecursion (λ (p : ℕ). p < n) found → Contains found place → place < n
places_within n found place all c = at found all c.0 c.1 c.2
  where
    at : (ps : List ℕ) → AllByRecursion (λ (p : ℕ). p < n) ps → (k : ℕ) → k < length ps → get_or ps k place ≡ place → place < n
    at [] a k l is = absurd (omega arith)
    at (p ∷ ps) a zero l is = let less = a.0 in omega (arith, less, is)
    at (p ∷ ps) a (suc k) l is = at ps a.1 k (omega arith) is

pub found_more : (column : ℕ) (values : List Value) (places : List Place) (found now : List ℕ) (count : ℕ) (value : Value)
    (more : List ℕ) → FoundFor column values places found count
    → count < length values → value ≡ get_or values count value → now ≡ found ++ more
    → AllByRecursion (λ (p : ℕ). p < length places) more → AreFound column value places more
    → FoundFor column values places now (count + 1)
found_more column values places found now count value more was l is put within all = record {
  all = λ j m. elim (cases_eq j count) [
    | inl same ↦ subst (λ (v : Value). AreFound column v places now)
        (is ∙ (get_or_default values count value Null l ∙ ap (λ (k : ℕ). get_or values k Null) (sym same)))
        (λ viewer place row n s e. subst (λ (xs : List ℕ). Contains xs place) (sym put)
        (Contains-append_right found more place (all viewer place row n s e)))
    | inr other ↦ λ viewer place row n s e. subst (λ (xs : List ℕ). Contains xs place) (sym put)
        (Contains-append_left found more place (was.all j (omega (arith, m, other)) viewer place row n s e))
  ];
  within = λ place c. elim (Contains-append_cases found more place (subst (λ (xs : List ℕ). Contains xs place) put c)) [
    | inl before ↦ was.within place before
    | inr here ↦ places_within (length places) more place within here
  ];
}

pub found_for_each : (column : ℕ) (values : List Value) (places : List Place) (found now : List ℕ) (count : ℕ)
    → FoundFor column values places found count → length values ≤ count
    → ((place : ℕ) → Contains found place → Contains now place) → (value : Value) → Contains values value → AreFound column value places now
found_for_each column values places found now count was all keeps value c viewer place row l s e =
    let same : get_or values c.0 Null ≡ value = get_or_default values c.0 Null value c.1 ∙ c.2 in
    let n = c.1 in
    keeps place (was.all c.0 (omega (arith, n, all)) viewer place row l s (e ∙ sym same))
