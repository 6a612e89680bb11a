use Rattle.std.proofs.Common.{rules, ap}
use Rattle.std.specs.Ordering.{is_lt}
use Rattle.std.proofs.lemmas.Result.{on_ok_weaker}
use Rattle.std.proofs.lemmas.List.Sorted.{answers_always}
use Rattle.hy_value.specs.Order.{row_cmp}
use Rattle.hy_value.specs.Sorting.{sorted_from_sort, rows_rank}
use Rattle.hy_value.proofs.stored.sort_stored_rows.Goals as goal

pub returns-clause-ok : goal.returns-clause-ok
returns-clause-ok c = on_ok_weaker c.sort_by.result
    (λ s. sorted_from_sort c.args.rows.now.items c.sort_by.new.self.items c.sort_by.ensures.permutation
    (s (λ x y. is_lt (row_cmp x y)) rows_rank (answers_always _ _ _ (λ f a r g q. ap is_lt (search (rules, q))))))
    c.sort_by.ensures.sorted
