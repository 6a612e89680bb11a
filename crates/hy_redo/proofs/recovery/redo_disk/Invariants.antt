use Rattle.std.proofs.Common.{◌≡◌, ◌-◌, length}
use Rattle.hy_disk.specs.Calls.{Stays}
use Rattle.hy_redo.proofs.Pieces.{IsReadTo}
use Rattle.hy_redo.proofs.recovery.redo_disk.Given as goal

abbrev pub invariant-pieces : goal.invariant-pieces
invariant-pieces g l =
    let d = g.D.Disk in
    IsReadTo (d.held l.disk) l.len l.fn.tables l.bytes.items l.so_far.tables.items l.so_far.last l.so_far.gate × (d.held l.disk ≡ d.held l.fn.disk)
    × Stays d.clock d.image d.image_since l.fn.disk l.disk
    × (d.faults l.disk ≡ d.faults l.fn.disk)

abbrev pub decreases-pieces : goal.decreases-pieces
decreases-pieces g l = l.len - length l.bytes.items
