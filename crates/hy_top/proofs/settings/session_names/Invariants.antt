use Rattle.std.proofs.Common.{◌≡◌, ◌++◌, map, drop}
use Rattle.hy_top.proofs.settings.session_names.Given as goal

-- the names so far, and those of what is left
abbrev pub invariant-loop-session : goal.invariant-loop-session
invariant-loop-session l = l.names ++ map (λ session. session.name) (drop l.session-index l.sessions) ≡ map (λ session. session.name) l.sessions
