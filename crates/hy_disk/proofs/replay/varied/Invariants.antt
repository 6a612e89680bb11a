use Rattle.std.proofs.Common.{◌≡◌, take}
use Rattle.hy_disk.specs.Offered.{each_items, varied_of}
use Rattle.hy_disk.proofs.replay.varied.Given as goal

abbrev pub invariant-images : goal.invariant-images
invariant-images l = each_items l.ways.items ≡ varied_of (each_items (take l.image-index l.images)) l.at l.from
