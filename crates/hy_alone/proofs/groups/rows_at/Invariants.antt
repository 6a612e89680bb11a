use Rattle.std.proofs.Common.{◌≡◌, take}
use Rattle.std.specs.Prelude.{filter}
use Rattle.hy_meaning.specs.Totals.{is_at_of}
use Rattle.hy_alone.proofs.groups.rows_at.Given as goal

-- those of the rows so far
abbrev pub invariant-loop-row : goal.invariant-loop-row
invariant-loop-row l = l.found ≡ filter (is_at_of l.column l.value) (take l.row-index l.rows)
