use Rattle.std.proofs.Common.{◌≡◌, ◌++◌}
use Rattle.std.specs.List.{flat_map}
use Rattle.std.specs.Vec.Iter.{into_iter_items}
use Rattle.hy_event.specs.declared.SessionData.{SessionData}
use Rattle.hy_world.proofs.finishing.all_outcomes.Given as goal

abbrev pub invariant-loop-session : goal.invariant-loop-session
invariant-loop-session l =
    l.all ++ flat_map (λ (session : SessionData). session.done) (into_iter_items l.session-iterator)
    ≡ flat_map (λ (session : SessionData). session.done) l.fn.sessions.items
