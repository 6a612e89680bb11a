use Rattle.std.proofs.Common.{◌≡◌, ◌++◌, take}
use Rattle.hy_disk.specs.Offered.{each_items}
use Rattle.hy_disk.proofs.replay.Replay.offer.Given as goal

abbrev pub invariant-images : goal.invariant-images
invariant-images l = each_items l.offered.items ≡ each_items l.fn.offered.items ++ each_items (take l.image-index l.self.ways.items)
