-- Chunks in which a condition selects no row, whoever looks.
use Rattle.std.specs.Prelude.{◌≡◌, false, List}
use Rattle.std.specs.List.{AllByRecursion}
use Rattle.hy_bound.specs.Condition.{Condition}
use Rattle.hy_bound.specs.Predicate.{truth_at}
use Rattle.hy_stamp.specs.declared.Viewer.{Viewer}
use Rattle.hy_undo.specs.Places.{Place, sees}

-- no viewer sees a row there that the condition selects
abbrev pub SelectsNone : Condition → List Place → Type 0
SelectsNone pred places = AllByRecursion (λ place. (viewer : Viewer) → truth_at pred (sees viewer place) ≡ false) places
