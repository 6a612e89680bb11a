use Rattle.std.proofs.Common.{◌≡◌, map, take}
use Rattle.hy_threads.specs.Knowledge.{shown}
use Rattle.hy_threads.proofs.parts.snapshots_of.Given as goal

abbrev pub invariant-loop-session : goal.invariant-loop-session
invariant-loop-session g l = map shown l.list.items ≡ take l.session-index l.fn.sessions
