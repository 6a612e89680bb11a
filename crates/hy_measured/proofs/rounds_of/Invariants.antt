use Rattle.std.proofs.Common.{◌≡◌, length}
use Rattle.hy_measured.proofs.rounds_of.Given as goal

-- there is one chain
abbrev pub invariant-loop-round : goal.invariant-loop-round
invariant-loop-round l = ◌≡◌ (length l.chains.chains) 1
