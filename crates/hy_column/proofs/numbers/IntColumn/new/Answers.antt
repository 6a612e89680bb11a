use Rattle.std.proofs.Common.{ℤ, List, ap, ◌∙◌}
use Rattle.hy_column.specs.Numbers.{numbers}
use Rattle.hy_column.proofs.NumberLists.{all_zeros}
use Rattle.hy_column.proofs.numbers.IntColumn.new.Goals as goal

pub returns : goal.returns
returns c =
    ap (λ (ns : List ℤ). numbers ns c.in_ok-nulls.nulls) (c.in_ok-values.ensures.items_if_clones_equal (λ y e. e))
    ∙ (ap (numbers _) c.in_ok-nulls.ensures ∙ all_zeros c.args.rows)
