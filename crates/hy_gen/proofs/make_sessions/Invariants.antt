use Rattle.std.proofs.Common.{◌≡◌, ◌++◌, ◌-◌, ◌+◌}
use Rattle.hy_gen.specs.Made.{sessions_from}
use Rattle.hy_gen.proofs.make_sessions.Given as goal

abbrev pub invariant-loop-session : goal.invariant-loop-session
invariant-loop-session l =
    l.sessions.items ++ sessions_from l.fn.txns (l.session + 1) (l.fn.count - l.session) l.draws.state
    ≡ sessions_from l.fn.txns 1 l.fn.count l.fn.draws.state
