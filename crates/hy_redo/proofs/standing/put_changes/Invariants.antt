use Rattle.std.proofs.Common.{◌≡◌, vec_len}
use Rattle.hy_redo.specs.Tables.{after_changes}
use Rattle.hy_redo.proofs.standing.put_changes.Given as goal

abbrev pub invariant-loop-change : goal.invariant-loop-change
invariant-loop-change l = after_changes l.tables.items l.left.items ≡ after_changes l.fn.tables.items l.fn.changes

abbrev pub decreases-loop-change : goal.decreases-loop-change
decreases-loop-change l = vec_len l.left
