use Rattle.std.proofs.Common.{◌≡◌, ◌++◌}
use Rattle.std.specs.Vec.Iter.{into_iter_items}
use Rattle.hy_recovery.specs.Recovered.{rows_of}
use Rattle.hy_recovery.proofs.all_rows.Given as goal

-- the rows of the tables so far, and of what is left
abbrev pub invariant-loop-table : goal.invariant-loop-table
invariant-loop-table l = l.all ++ rows_of (into_iter_items l.table-iterator) ≡ rows_of l.fn.tables
