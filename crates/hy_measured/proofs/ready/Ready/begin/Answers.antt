use Rattle.std.proofs.Common.{arith}
use Rattle.hy_measured.proofs.Wholes.{later}
use Rattle.hy_measured.proofs.ready.Ready.begin.Goals as goal

pub invariant_of-self : goal.invariant_of-self
invariant_of-self c = later c.self.inside.positions c.self.inside.next _ c.self.inside.chunk (omega (arith, c.in_ok-start.ensures.time)) c.self.invariant
