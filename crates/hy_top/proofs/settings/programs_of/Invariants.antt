use Rattle.std.proofs.Common.{◌≡◌, ◌++◌, map, length}
use Rattle.hy_top.proofs.settings.programs_of.Given as goal

abbrev pub decreases-loop-rest : goal.decreases-loop-rest
decreases-loop-rest l = length l.rest.items

-- the transactions so far, and those of what is left
abbrev pub invariant-loop-rest : goal.invariant-loop-rest
invariant-loop-rest l = l.programs ++ map (λ session. session.txns) l.rest.items ≡ map (λ session. session.txns) l.fn.sessions
