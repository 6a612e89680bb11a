use Rattle.std.proofs.Common.{sym, ◌∙◌}
use Rattle.hy_threads.proofs.worker.Worker.prepare.Goals as goal

pub invariant_of-self : goal.invariant_of-self
invariant_of-self g c = let ready = c.self.invariant in (ready.0, ready.1, ready.2 ∙ sym c.prepare.ensures, ready.3)
