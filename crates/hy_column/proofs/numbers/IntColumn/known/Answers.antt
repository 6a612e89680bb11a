use Rattle.std.proofs.Common.{◌∙◌, ap, arith, map, Some}
use Rattle.hy_column.proofs.NumberLists.{all_known}
use Rattle.hy_column.proofs.numbers.IntColumn.known.Goals as goal

pub returns-else-next_set-len : goal.returns-else-next_set-len
returns-else-next_set-len c =
    ap (map Some) c.as_slice.ensures.value
    ∙ (all_known c.self.inside.values.items c.self.inside.nulls c.self.invariant.same
    (λ k l. c.next_set.ensures.passed k (omega arith) (omega (arith, l, c.len.ensures, c.if-next_set-len.false)))
    ∙ c.self.view_is)
