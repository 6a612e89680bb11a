use Rattle.std.proofs.Common.{◌≡◌, ◌++◌, map}
use Rattle.std.specs.Vec.Iter.{into_iter_items}
use Rattle.hy_event.specs.declared.SessionData.{SessionData}
use Rattle.hy_world.specs.Grouped.{fresh_session}
use Rattle.hy_world.proofs.logged_threads.begin_sessions.Given as goal

abbrev pub invariant-loop-session : goal.invariant-loop-session
invariant-loop-session l =
    l.all.items ++ map (λ (session : SessionData). fresh_session session l.fn.core_part) (into_iter_items l.session-iterator)
    ≡ map (λ (session : SessionData). fresh_session session l.fn.core_part) l.fn.sessions.items
