use Rattle.std.proofs.Common.{◌≡◌, ◌+◌, drop}
use Rattle.hy_top.specs.Lines.{all_rows}
use Rattle.hy_top.proofs.lines.rows_in_all.Given as goal

-- the count so far, and that of what is left
abbrev pub invariant-loop-rows : goal.invariant-loop-rows
invariant-loop-rows l = l.count + all_rows (drop l.rows-index l.tables) ≡ all_rows l.tables
