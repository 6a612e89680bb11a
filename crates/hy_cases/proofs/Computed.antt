-- What a run and what is logged compute with.
use Rattle.std.specs.Prelude.{ℕ}
use Rattle.hy_plan.specs.ColumnSets.{bits_where, columns_where, named_columns}
use Rattle.hy_machine.specs.Runs.{moves, repeated}

-- to unfold this is to unfold these
unfoldable pub computed : ℕ
unfolding moves repeated bits_where columns_where named_columns
computed = 0
