use Rattle.std.proofs.Common.{ℕ, ◌+◌, ◌-◌, ◌≡◌, subst, sym, ◌∙◌, arith}
use Rattle.hy_gathered.specs.Columns.{columns_below, columns_from}
use Rattle.hy_gathered.proofs.Placed.{counts_all, counts_none, counts_one}
use Rattle.hy_gathered.proofs.sums.count_columns.Goals as goal
use Rattle.hy_gathered.proofs.sums.count_columns.Goals.{then-has, else-has}

pub loop-column-preserved : goal.loop-column-preserved
loop-column-preserved c =
    let mask = c.args.columns in
    let all = columns_below mask c.args.width in
    let counted = c.loop-column.invariant.counted in
    let width = c.args.width in
    let count = c.loop-column.count in
    let column = c.loop-column.column in
    let Counted : ℕ → Type 0 = λ n. n + columns_from mask (column + 1) (width - (column + 1)) ≡ columns_below mask width in
    elim c.if-has.branch [
      | then-has w ↦ record {
        counted = subst Counted (sym w.count-is)
            (counts_one mask width column count all c.loop-column-test.true (sym c.has.ensures ∙ w.if-has.true) counted);
        few = omega (arith, w.count-is, c.loop-column.invariant.few);
      }
      | else-has w ↦ record {
        counted = subst Counted (sym w.count-is)
            (counts_none mask width column count all c.loop-column-test.true (sym c.has.ensures ∙ w.if-has.false) counted);
        few = omega (arith, w.count-is, c.loop-column.invariant.few);
      }
    ]

pub returns : goal.returns
returns c =
    counts_all c.args.columns c.loop-column.column c.loop-column.count (c.args.width - c.loop-column.column) (columns_below c.args.columns c.args.width)
    (omega (arith, c.loop-column-test.false)) c.loop-column.invariant.counted
