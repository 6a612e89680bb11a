use Rattle.std.proofs.Common.{◌≡◌, ◌+◌, drop}
use Rattle.hy_top.specs.Lines.{all_txns}
use Rattle.hy_top.proofs.lines.txns_in_all.Given as goal

-- the count so far, and that of what is left
abbrev pub invariant-loop-session : goal.invariant-loop-session
invariant-loop-session l = l.count + all_txns (drop l.session-index l.sessions) ≡ all_txns l.sessions
