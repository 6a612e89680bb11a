use Rattle.std.proofs.Common.{◌≡◌, is_some}
use Rattle.hy_stepping.specs.Bounds.{most_turns}
use Rattle.hy_world.specs.Logged.{IsKept, Logs}
use Rattle.hy_world.proofs.RunsLeft.{Ahead}
use Rattle.hy_world.proofs.Loops.{rounds_left, all_rounds}
use Rattle.hy_world.proofs.world.World.run_rounds.Given as goal

abbrev pub invariant-loop-round : goal.invariant-loop-round
invariant-loop-round g l = record {
  ahead : Ahead (rounds_left most_turns l._round) all_rounds l.initial.self l.self;
  kept : IsKept g.D.Disk.image l.self.core.entries l.log l.disk;
  stays : is_some l.log ≡ is_some l.fn.log;
  logs : Logs g.D.Disk.clock g.D.Disk.image_since l.fn.self.core.entries l.self.core.entries l.fn.disk l.disk;
  steady : g.D.Disk.faults l.disk ≡ g.D.Disk.faults l.fn.disk;
}
