use Rattle.std.proofs.Common.{◌≡◌, false}
use Rattle.hy_threads.specs.Tasks.{IsSameWorker}
use Rattle.hy_threads.proofs.worker.Worker.run_stint.Given as goal

abbrev pub invariant-loop-visit : goal.invariant-loop-visit
invariant-loop-visit g l = IsSameWorker g.P.Worked.width_of l.fn.self l.self × (l.self.starved ≡ false)
