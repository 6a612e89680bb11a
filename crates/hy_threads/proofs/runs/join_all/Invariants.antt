use Rattle.std.proofs.Common.{◌≡◌, ◌≤◌, ◌++◌, length, map, vec_len, vec_capacity}
use Rattle.hy_threads.specs.Knowledge.{First, keeper}
use Rattle.hy_threads.specs.Tasks.{session_of}
use Rattle.hy_threads.proofs.WorkerRows.{regaining}
use Rattle.hy_threads.proofs.runs.join_all.Given as goal

abbrev pub invariant-loop-worker : goal.invariant-loop-worker
invariant-loop-worker g l =
    (l.yielded ++ l.worker-iterator.rest.items ≡ l.fn.workers.items)
    × (l.first.home ≡ l.fn.parts)
    × (l.first.knows ≡ First (keeper (vec_len l.fn.workers) (regaining l.sessions.items (length l.worker-iterator.rest.items))))
    × (l.sessions.items ≡ map session_of l.yielded)
    × (vec_len l.sessions ≡ length l.yielded) × (vec_len l.fn.workers ≤ vec_capacity l.sessions)
