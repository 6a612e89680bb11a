use Rattle.std.proofs.lemmas.List.Sorted.{IsPartitionPoint-from_clause}
use Rattle.std.proofs.Common.{map, rules, sym, ◌∙◌}
use Rattle.hy_index.specs.Entries.{up_to_key}
use Rattle.hy_index.specs.Keyed.{entry_of}
use Rattle.hy_index.proofs.Mapped.{parted_map, prefix_map}
use Rattle.hy_index.proofs.Orders.{parted_up_to}
use Rattle.hy_index.proofs.Prefixes.{prefix_is}
use Rattle.hy_index.proofs.ascending.count_up_to_key.Goals as goal

pub returns-clause-count : goal.returns-clause-count
returns-clause-count g c =
    let of = entry_of g.K.Key.value in
    let test = up_to_key (g.K.Key.value c.args.key.now) in
    let parted = parted_map of test c.args.entries.now (parted_up_to (g.K.Key.value c.args.key.now) (map of c.args.entries.now) c.requires) in
    prefix_is (λ e. test (of e)) c.args.entries.now c.partition_point.result c.partition_point.ensures.bound
    (IsPartitionPoint-from_clause (λ e. test (of e)) _ _ c.partition_point.ensures.partitioned parted (λ a r q k. search rules))
    ∙ sym (prefix_map of test c.args.entries.now)
