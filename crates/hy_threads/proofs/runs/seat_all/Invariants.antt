use Rattle.std.proofs.Common.{◌≡◌, ◌≤◌, ◌++◌, length, map, vec_len, vec_capacity}
use Rattle.hy_threads.specs.Knowledge.{First, keeper}
use Rattle.hy_threads.specs.Tasks.{AreOf, session_of}
use Rattle.hy_threads.proofs.WorkerRows.{keeping}
use Rattle.hy_threads.proofs.runs.seat_all.Given as goal

abbrev pub invariant-loop-session : goal.invariant-loop-session
invariant-loop-session g l =
    (l.yielded ++ l.session-iterator.rest.items ≡ l.fn.sessions.items)
    × (l.first.home ≡ l.fn.parts)
    × (l.first.knows ≡ First (keeper (length l.yielded) (keeping (length l.yielded) l.session-iterator.rest.items)))
    × AreOf l.fn.parts 0 l.workers.items
    × (map session_of l.workers.items ≡ l.yielded)
    × (vec_len l.workers ≡ length l.yielded) × (vec_len l.fn.sessions ≤ vec_capacity l.workers)
