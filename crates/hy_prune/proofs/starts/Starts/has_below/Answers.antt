use Rattle.std.proofs.Common.{ℕ, List, ap, ◌∙◌, sym, subst}
use Rattle.std.specs.Prelude.{◌==◌, count_by, nat_lt, not as negated}
use Rattle.std.specs.List.Sorted.{IsNonDecreasing}
use Rattle.std.proofs.lemmas.Bool.{ltb-true}
use Rattle.hy_prune.proofs.Counting.{first_tells}
use Rattle.hy_prune.proofs.starts.Starts.has_below.Goals as goal

pub returns-in-Some : goal.returns-in-Some
returns-in-Some c =
    let up = subst IsNonDecreasing (sym c.deref.ensures.value) (c.self.invariant c.if-self.true) in
    let h = c.in-Some.ensures in
    first_tells c.deref.result.now c.in-Some.first.now c.args.time up (ltb-true _ _ (sym h.item.0)) h.item.1
    ∙ ap (λ (starts : List ℕ). negated (count_by (λ start. nat_lt start c.args.time) starts == 0)) (c.deref.ensures.value ∙ c.self.view_is)
