use Rattle.std.proofs.Common.{arith}
use Rattle.hy_engine_tests.proofs.Wholes.{later}
use Rattle.hy_engine_tests.proofs.tried.Tried.begin.Goals as goal

pub invariant_of-self-2 : goal.invariant_of-self-2
invariant_of-self-2 c = later c.self.inside.next _ c.self.inside.chunk (omega (arith, c.in_ok-start.ensures.time)) c.self.invariant
