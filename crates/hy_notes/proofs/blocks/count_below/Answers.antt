use Rattle.std.proofs.Common.{rules}
use Rattle.std.proofs.lemmas.List.Sorted.{IsPartitionPoint-from_clause}
use Rattle.hy_notes.specs.Notes.{below}
use Rattle.hy_notes.proofs.Orders.{parted}
use Rattle.hy_notes.proofs.Prefixes.{prefix_is}
use Rattle.hy_notes.proofs.blocks.count_below.Goals as goal

pub returns-clause-count : goal.returns-clause-count
returns-clause-count c =
    prefix_is (below c.args.table c.args.pos) c.args.notes.now c.partition_point.result c.partition_point.ensures.bound
    (IsPartitionPoint-from_clause (below c.args.table c.args.pos) _ _ c.partition_point.ensures.partitioned (parted c.args.table c.args.pos c.args.notes.now c.requires) (λ a r q k. search rules))
