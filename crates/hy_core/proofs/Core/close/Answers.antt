use Rattle.std.proofs.Common.{sym, subst}
use Rattle.hy_core.specs.Sound.{AreGiven}
use Rattle.hy_core.proofs.Opens.{given_without}
use Rattle.hy_core.proofs.Core.close.Goals as goal

pub invariant_of-self : goal.invariant_of-self
invariant_of-self c =
    subst (AreGiven c.self.inside.clock) (sym c.leave.ensures.starts) (given_without c.self.inside.clock c.args.start c.self.inside.active.starts c.self.invariant)
