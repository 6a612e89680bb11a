use Rattle.std.proofs.Common.{◌≡◌, map}
use Rattle.std.specs.List.{range_with_len}
use Rattle.hy_explain.specs.Behind.{rows_behind}
use Rattle.hy_explain.proofs.behind.tables_after.Given as goal

-- the tables so far
abbrev pub invariant-loop-table : goal.invariant-loop-table
invariant-loop-table l = l.tables ≡ map (rows_behind l.script l.order l.rank) (range_with_len 0 l.table)
