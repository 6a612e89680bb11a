use Rattle.std.proofs.Common.{◌≡◌, ◌++◌, drop}
use Rattle.hy_plan.specs.Reads.{rows_read_of}
use Rattle.hy_plan.proofs.reading.rows_read.Given as goal

-- the rows so far and those of the rest are all
abbrev pub invariant-loop-row : goal.invariant-loop-row
invariant-loop-row l = l.those.items ++ rows_read_of l.read (drop l.row-index l.rows) ≡ rows_read_of l.read l.rows
