-- A neighbour of the law that visits add up: a later part may go over positions that an earlier one visited.
use Rattle.std.specs.Prelude.{◌≡◌, ℕ, ◌+◌, ◌≤◌, [], ◌∷◌}
use Rattle.std.specs.List.{range_with_len}
use Rattle.hy_bound.specs.declared.WriteKind.{WriteKind}
use Rattle.hy_bound.specs.declared.WriteKind.TheVariants.{Set}
use Rattle.hy_bound.specs.Condition.{Condition}
use Rattle.hy_bound.specs.Expression.{Literal}
use Rattle.hy_machine.specs.Tables.{Tables}
use Rattle.hy_replay.specs.EffectVisits.{Visited, visit, then_visit}
use Rattle.hy_cases.specs.Examples.{number}

-- positions below one, and then those from an earlier one on, come to what all of them come to at once
abbrev pub RevisitsAddUp : Type 0
RevisitsAddUp =
    (kind : WriteKind) (pred : Condition) (tables : Tables) (table many from more : ℕ) (before : Visited) → from ≤ many
    → then_visit kind pred tables table (range_with_len from more) (visit kind pred tables table (range_with_len 0 many) before)
    ≡ visit kind pred tables table (range_with_len 0 (from + more)) before

-- SET of the first column to 2
abbrev pub to_two : WriteKind
to_two = Set (record { column = 0; value = Literal (number 2) } ∷ [])
