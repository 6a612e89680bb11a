use Rattle.std.proofs.Common.{◌≡◌, is_some, drop}
use Rattle.hy_world.specs.Logged.{IsKept, Logs}
use Rattle.hy_world.proofs.RunsLeft.{Ahead}
use Rattle.hy_world.proofs.Loops.{all_items}
use Rattle.hy_world.proofs.world.World.run_items.Given as goal

abbrev pub invariant-loop-item : goal.invariant-loop-item
invariant-loop-item g l = record {
  ahead : Ahead (all_items (drop l.item-index l.items)) (all_items l.items) l.initial.self l.self;
  kept : IsKept g.D.Disk.image l.self.core.entries l.log l.disk;
  stays : is_some l.log ≡ is_some l.fn.log;
  logs : Logs g.D.Disk.clock g.D.Disk.image_since l.fn.self.core.entries l.self.core.entries l.fn.disk l.disk;
  steady : g.D.Disk.faults l.disk ≡ g.D.Disk.faults l.fn.disk;
}
