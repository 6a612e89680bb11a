use Rattle.std.proofs.Common.{◌≡◌, false}
use Rattle.hy_threads.specs.Tasks.{IsSameWorker}
use Rattle.hy_threads.proofs.worker.Worker.run.Given as goal

abbrev pub invariant-loop : goal.invariant-loop
invariant-loop g l =
    (goal.iterator-loop g).can_next l.iterator' × (goal.iterator-loop g).is_finite l.iterator'
    × IsSameWorker g.P.Worked.width_of l.fn.self l.self × (l.self.starved ≡ false)
