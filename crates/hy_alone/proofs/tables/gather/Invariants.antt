use Rattle.std.proofs.Common.{◌≡◌, map, take}
use Rattle.hy_meaning.specs.Statement.{rows_in}
use Rattle.hy_alone.proofs.tables.gather.Given as goal

-- those of the tables so far
abbrev pub invariant-loop-table : goal.invariant-loop-table
invariant-loop-table l = l.gathered.items ≡ map (rows_in l.db) (take l.table-index l.tables)
