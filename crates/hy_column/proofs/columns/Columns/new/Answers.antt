use Rattle.std.proofs.Common.{◌≡◌, subst, sym, ap, ◌∙◌}
use Rattle.std.proofs.lemmas.List.{take_all}
use Rattle.hy_column.specs.Rows.{rows_of, kinds_of, AreAsMany}
use Rattle.hy_column.proofs.RowLists.{made, made_lie, made_kinds, made_rows}
use Rattle.hy_column.proofs.columns.Columns.new.Goals as goal

pub returns : goal.returns
returns c =
    let all : c.loop-kind.columns.items ≡ made c.args.rows c.args.kinds.now =
    c.loop-kind.invariant ∙ ap (made c.args.rows) (take_all c.loop-kind.kind-index c.args.kinds.now c.loop-kind-test.false) in
    record {
      kinds = ap kinds_of all ∙ made_kinds c.args.rows c.args.kinds.now;
      rows = ap (rows_of c.args.rows) all ∙ made_rows c.args.rows c.args.kinds.now;
    }

pub invariant_of-result : goal.invariant_of-result
invariant_of-result c =
    let all : c.loop-kind.columns.items ≡ made c.args.rows c.args.kinds.now =
    c.loop-kind.invariant ∙ ap (made c.args.rows) (take_all c.loop-kind.kind-index c.args.kinds.now c.loop-kind-test.false) in
    subst (AreAsMany c.args.rows) (sym all) (record { each = made_lie c.args.rows c.args.kinds.now })
