use Rattle.std.proofs.Common.{rules, ap}
use Rattle.std.specs.Ordering.{is_lt}
use Rattle.std.proofs.lemmas.List.Sorted.{answers_always}
use Rattle.hy_validate.specs.Keys.{keyed_cmp}
use Rattle.hy_validate.proofs.KeyOrder.{keyed_rank}
use Rattle.hy_validate.proofs.keys.KeyedRecords.sort.Goals as goal

pub returns-clause-sorted : goal.returns-clause-sorted
returns-clause-sorted c =
    c.sort_unstable_by.ensures.sorted (λ p q. is_lt (keyed_cmp p q)) keyed_rank (answers_always _ _ _ (λ f a r g q. ap is_lt (search (rules, q))))
