use Rattle.std.proofs.Common.{rules}
use Rattle.std.proofs.lemmas.List.Sorted.{IsPartitionPoint-from_clause}
use Rattle.hy_validate.specs.Keys.{is_below}
use Rattle.hy_validate.proofs.KeyOrder.{keys_parted}
use Rattle.hy_validate.proofs.keys.count_below.Goals as goal

pub returns-clause-point : goal.returns-clause-point
returns-clause-point c =
    IsPartitionPoint-from_clause (is_below c.args.key.now) _ _ c.partition_point.ensures.partitioned
    (keys_parted c.args.key.now c.args.places.now c.requires) (λ a r q k. search rules)
