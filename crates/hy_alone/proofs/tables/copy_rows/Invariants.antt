use Rattle.std.proofs.Common.{◌≡◌, take}
use Rattle.hy_alone.proofs.tables.copy_rows.Given as goal

-- the rows so far
abbrev pub invariant-loop-row : goal.invariant-loop-row
invariant-loop-row l = l.copies ≡ take l.row-index l.rows
