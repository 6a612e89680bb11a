-- Where nobody sees a row with a key, a condition that asks for it selects none.
use Rattle.std.proofs.Common.{◌≡◌, ℕ, zero, suc, ◌<◌, true, false, List, [], ◌∷◌, length, Some, None, refl, arith}
use Rattle.std.specs.Prelude.{Contains}
use Rattle.std.proofs.lemmas.Bool.{false_from_ne_true}
use Rattle.hy_value.specs.declared.Value.{Value}
use Rattle.hy_bound.specs.Condition.{Condition}
use Rattle.hy_bound.specs.Predicate.{truth_at, truth_of}
use Rattle.hy_stamp.specs.declared.Viewer.{Viewer}
use Rattle.hy_undo.specs.Places.{Place, Cell, sees}
use Rattle.hy_chunk.specs.Gathering.{Asks}
use Rattle.hy_chunk.specs.Keyed.{AreFound}
use Rattle.hy_visit.specs.Sparing.{SelectsNone}

none_found : (i : ℕ) → Contains [] i → ⊥
none_found i (k, l, e) = omega (arith, l)

module _ (pred : Condition) (column : ℕ) (value : Value) (asks : Asks pred column value) where
  pub selects_none : (places : List Place) → AreFound column value places [] → SelectsNone pred places
  selects_none [] none = tt
  selects_none (place ∷ places) none = (
    λ viewer. unselected viewer (sees viewer place) refl,
    selects_none places (λ viewer i row l is same. absurd (none_found (suc i) (none viewer (suc i) row (omega (arith, l)) is same))),
  )
    where
      unselected : (viewer : Viewer) (cell : Cell) → sees viewer place ≡ cell → truth_at pred cell ≡ false
      unselected viewer None is = refl
      unselected viewer (Some row) is =
          false_from_ne_true (truth_of pred row) (λ yes. none_found zero (none viewer zero row (omega arith) is (asks row yes)))
