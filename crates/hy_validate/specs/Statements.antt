-- The statements whose records are hit.
use Rattle.std.specs.Prelude.{ℕ, List, [], ◌∷◌, Option, None, Some, slice_get, if◌then◌else◌}
use Rattle.std.specs.Option.{option_map_or}
use Rattle.hy_bound.specs.declared.Record.{Record}
use Rattle.hy_value.specs.declared.change.Change.{Change}
use Rattle.hy_validate.specs.TreeHits.{is_hit_by}

-- the statement of the record of a number
abbrev pub statement_at : List Record → ℕ → ℕ
statement_at records number = option_map_or (λ (of : Record). of.statement) (slice_get records number) 0

-- the statement of the first of these records that a change hits
abbrev pub statement_hit : List Record → Change → Option ℕ
statement_hit [] change = None
statement_hit (of ∷ others) change = if is_hit_by change of then Some of.statement else statement_hit others change
