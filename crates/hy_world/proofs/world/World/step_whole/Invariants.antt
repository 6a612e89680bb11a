use Rattle.std.proofs.Common.{◌≡◌, is_some}
use Rattle.hy_world.specs.Logged.{IsKept, Logs}
use Rattle.hy_world.proofs.Loops.{OnWay}
use Rattle.hy_world.proofs.world.World.step_whole.Given as goal

abbrev pub invariant-loop-turn : goal.invariant-loop-turn
invariant-loop-turn g l = record {
  on_way : OnWay l.number l._turn l.initial.self l.self;
  kinds : l.self.kinds ≡ l.fn.self.kinds;
  kept : IsKept g.D.Disk.image l.self.core.entries l.log l.disk;
  stays : is_some l.log ≡ is_some l.fn.log;
  logs : Logs g.D.Disk.clock g.D.Disk.image_since l.fn.self.core.entries l.self.core.entries l.fn.disk l.disk;
  steady : g.D.Disk.faults l.disk ≡ g.D.Disk.faults l.fn.disk;
}
