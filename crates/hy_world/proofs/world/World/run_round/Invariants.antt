use Rattle.std.proofs.Common.{◌≡◌, is_some}
use Rattle.hy_world.specs.Logged.{IsKept, Logs}
use Rattle.hy_world.proofs.RunsLeft.{Ahead}
use Rattle.hy_world.proofs.Loops.{round_left, a_round}
use Rattle.hy_world.proofs.world.World.run_round.Given as goal

abbrev pub invariant-loop-number : goal.invariant-loop-number
invariant-loop-number g l = record {
  ahead : Ahead (round_left l.number-end l.number) a_round l.initial.self l.self;
  kept : IsKept g.D.Disk.image l.self.core.entries l.log l.disk;
  stays : is_some l.log ≡ is_some l.fn.log;
  logs : Logs g.D.Disk.clock g.D.Disk.image_since l.fn.self.core.entries l.self.core.entries l.fn.disk l.disk;
  steady : g.D.Disk.faults l.disk ≡ g.D.Disk.faults l.fn.disk;
}
