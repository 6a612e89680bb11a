use Rattle.hy_threads.proofs.WorkerRows.{AreSame}
use Rattle.hy_threads.proofs.together.run_round.Given as goal

abbrev pub invariant-loop-k : goal.invariant-loop-k
invariant-loop-k g l = AreSame g.P.Worked.width_of l.fn.workers l.workers
