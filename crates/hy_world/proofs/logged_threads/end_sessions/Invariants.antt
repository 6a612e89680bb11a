use Rattle.std.proofs.Common.{◌≡◌, ◌++◌, map}
use Rattle.std.specs.Vec.Iter.{into_iter_items}
use Rattle.hy_world.specs.Grouped.{session_in}
use Rattle.hy_world.proofs.logged_threads.end_sessions.Given as goal

abbrev pub invariant-loop-session : goal.invariant-loop-session
invariant-loop-session l = l.all.items ++ map session_in (into_iter_items l.session-iterator) ≡ map session_in l.fn.sessions.items
