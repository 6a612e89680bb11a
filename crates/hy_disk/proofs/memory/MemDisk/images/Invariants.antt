use Rattle.std.proofs.Common.{◌≡◌, take}
use Rattle.hy_disk.specs.Offered.{StandsAt, each_items, offered_since}
use Rattle.hy_disk.specs.Replay.{history_of}
use Rattle.hy_disk.proofs.memory.MemDisk.images.Given as goal

abbrev pub invariant-events : goal.invariant-events
invariant-events l =
    let history = history_of l.self-inside.start.items (take l.time l.self-inside.events.items) in record {
      stands : StandsAt history.present l.replay.bytes.items (each_items l.replay.ways.items) l.replay.left;
      offered : each_items l.offered.items ≡ offered_since history.earlier l.since;
    }
