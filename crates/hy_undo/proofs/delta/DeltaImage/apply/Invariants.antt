use Rattle.std.proofs.Common.{map}
use Rattle.hy_undo.specs.Noted.{noted_value}
use Rattle.hy_undo.proofs.Putting.{PutUpTo}
use Rattle.hy_undo.proofs.delta.DeltaImage.apply.Given as goal

-- the columns so far have what was noted
abbrev pub invariant-loop-column : goal.invariant-loop-column
invariant-loop-column l = PutUpTo (map noted_value l.self-inside.notes.items) l.fn.base.row l.base.row l.column
