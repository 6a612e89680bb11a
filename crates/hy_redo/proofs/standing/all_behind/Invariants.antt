use Rattle.std.proofs.Common.{◌≡◌, drop}
use Rattle.hy_redo.specs.Tables.{rise_past}
use Rattle.hy_redo.proofs.standing.all_behind.Given as goal

abbrev pub invariant-loop-change : goal.invariant-loop-change
invariant-loop-change l = rise_past l.table l.pos (drop l.change-index l.changes) ≡ rise_past l.fn.table l.fn.pos l.changes
