use Rattle.std.proofs.Common.{◌≡◌, suc, drop}
use Rattle.hy_meaning.specs.Serial.{alone_from, alone_of}
use Rattle.hy_alone.proofs.Alone.{behind}
use Rattle.hy_alone.proofs.running.run_alone.Given as goal

-- the replies so far, and what the statements give that are left
abbrev pub invariant-loop-index : goal.invariant-loop-index
invariant-loop-index l = alone_of l.shapes l.statements l.fn.tables ≡ behind l.replies (alone_from l.shapes l.saved (suc l.index) (drop l.index l.statements) l.db)
