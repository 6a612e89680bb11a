use Rattle.std.proofs.Common.{rules}
use Rattle.std.proofs.lemmas.List.Sorted.{IsPartitionPoint-from_clause}
use Rattle.hy_notes.specs.Blocks.{begins}
use Rattle.hy_notes.proofs.Placing.{begun_first}
use Rattle.hy_notes.proofs.blocks.count_begun.Goals as goal

pub returns-clause-parted : goal.returns-clause-parted
returns-clause-parted c =
    IsPartitionPoint-from_clause (begins c.args.table c.args.pos) _ _ c.partition_point.ensures.partitioned
    (begun_first c.args.table c.args.pos c.args.blocks.now c.requires.ascends c.requires.later) (λ a r q k. search rules)
