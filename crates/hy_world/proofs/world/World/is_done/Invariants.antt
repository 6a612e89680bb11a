use Rattle.std.proofs.Common.{◌≡◌, drop}
use Rattle.hy_stepping.specs.Outcomes.{are_done}
use Rattle.hy_world.proofs.world.World.is_done.Given as goal

abbrev pub invariant-loop-session : goal.invariant-loop-session
invariant-loop-session l = are_done l.self.sessions ≡ are_done (drop l.session-index l.session-items)
