use Rattle.std.proofs.Common.{ℕ, List, ap, ◌∙◌, sym, subst, rules}
use Rattle.std.specs.Prelude.{count_by, nat_lt}
use Rattle.std.specs.List.Sorted.{IsNonDecreasing}
use Rattle.std.proofs.lemmas.List.Sorted.{IsPartitionPoint-from_clause, IsPartitionedBy-ltb}
use Rattle.hy_prune.proofs.Counting.{counted}
use Rattle.hy_prune.proofs.starts.Starts.count_below.Goals as goal

pub returns-then-self : goal.returns-then-self
returns-then-self c =
    let up = subst IsNonDecreasing (sym c.deref.ensures.value) (c.self.invariant c.if-self.true) in
    counted (λ start. nat_lt start c.args.time) c.deref.result.now c.partition_point.result c.partition_point.ensures.bound
    (IsPartitionPoint-from_clause (λ start. nat_lt start c.args.time) _ _ c.partition_point.ensures.partitioned
    (IsPartitionedBy-ltb (λ start. start) c.deref.result.now c.args.time up) (λ a r q k. search rules))
    ∙ ap (λ (starts : List ℕ). count_by (λ start. nat_lt start c.args.time) starts) (c.deref.ensures.value ∙ c.self.view_is)
