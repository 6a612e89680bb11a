use Rattle.std.proofs.Common.{subst}
use Rattle.std.specs.List.Sorted.{IsNonDecreasing}
use Rattle.std.proofs.lemmas.Bool.{MatchBool-at_true}
use Rattle.std.proofs.lemmas.List.Sorted.{non_decreasing_from_is_sorted}
use Rattle.hy_prune.proofs.starts.Starts.from_vec.Goals as goal

pub invariant_of-result : goal.invariant_of-result
invariant_of-result c = λ e.
    subst IsNonDecreasing c.deref.ensures.value
    (MatchBool-at_true _ _ e (non_decreasing_from_is_sorted c.deref.result.now _ c.is_sorted-ascending.ensures.cases))
