use Rattle.std.proofs.Common.{◌≡◌, sym, ap, ◌∙◌}
use Rattle.hy_value.specs.declared.Cmp.{Cmp}
use Rattle.hy_bound.specs.Condition.{Compare}
use Rattle.hy_value.specs.declared.refs.ValueRef.{ValueRef}
use Rattle.hy_value.specs.Refs.{referred}
use Rattle.hy_bound.specs.PredView.{viewed_side}
use Rattle.hy_bound.specs.declared.predicate.Side.TheVariants.{Literal}
use Rattle.hy_chunk.specs.Gathering.{Asks}
use Rattle.hy_chunk.proofs.Asking.{comparison_asks, some_weaker}
use Rattle.hy_chunk.proofs.gathering.+value_asked.Goals as goal

pub returns-in-Compare-default-Eq-default : goal.returns-in-Compare-default-Eq-default
returns-in-Compare-default-Eq-default t c =
    let compared = c.in-Compare-default-Eq-default in
    some_weaker c.literal_of.result (λ (value : ValueRef). viewed_side compared.side ≡ Literal (referred value))
    (λ (value : ValueRef). Asks c.args.pred.now c.args.column (referred value))
    (λ value e. comparison_asks c.args.pred.now compared.left c.args.column (viewed_side compared.side) (referred value)
    (ap (λ (op : Cmp). Compare compared.left op (viewed_side compared.side)) (sym compared.op-is) ∙ compared.ensures) c.if-left-column.true e)
    c.literal_of.ensures
