use Rattle.hy_threads.proofs.WorkerRows.{AreSame}
use Rattle.hy_threads.proofs.together.run_together.Given as goal

abbrev pub invariant-loop : goal.invariant-loop
invariant-loop g l =
    (goal.iterator-loop g).can_next l.iterator' × (goal.iterator-loop g).is_finite l.iterator'
    × AreSame g.P.Worked.width_of l.fn.workers l.workers
