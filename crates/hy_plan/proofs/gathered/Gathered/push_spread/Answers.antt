use Rattle.std.proofs.Common.{◌≡◌, ◌-◌, ◌<◌, [], ◌++◌, drop, get_or, ap, sym, ◌∙◌, arith, length}
use Rattle.hy_bound.specs.Projection.{spread}
use Rattle.hy_plan.specs.Cells.{row_at}
use Rattle.hy_plan.proofs.Cells.{reach_at, length-rows_of, cell_in_row, length-row_at, get_or-rows_of}
use Rattle.hy_plan.proofs.Spreads.{spread_value, spread_outside, spread_nothing, spread_done}
use Rattle.hy_plan.proofs.gathered.Gathered.push_spread.Goals as goal
use Rattle.hy_plan.proofs.gathered.Gathered.push_spread.Goals.{then-used-len+then-has+in_ok-push, else-used-len+in_ok-push-2, else-used-len-via-then-used-len+else-has, else-used-len-via-else-used-len}

pub refer-requires : goal.refer-requires
refer-requires c =
    let within : c.loop-column.used < length c.self.inside.columns.items = omega (arith, c.if-used-len.true, c.len.ensures) in
    omega (
      arith,
      c.requires,
      ap (λ gathered. length gathered.rows) c.self.view_is,
      length-rows_of c.self.inside.len c.self.inside.columns.items,
      reach_at c.self.inside.len c.self.inside.columns.items c.loop-column.used c.index.result.now c.self.invariant within c.index.ensures,
    )

pub loop-column-preserved : goal.loop-column-preserved
loop-column-preserved c =
    let row = row_at c.self.inside.columns.items c.args.index in
    let columns : length row ≡ length c.self.inside.columns.items = length-row_at c.self.inside.columns.items c.args.index in
    let whole = c.args.joined.now ++ spread c.args.columns c.args.width row in
    elim c.if-used-len.branch [
      | then-used-len+then-has+in_ok-push w ↦
          rw (w.joined-is, w.used-is) (spread_value c.args.columns c.loop-column.column c.args.width c.loop-column.used w.to_value.result row c.loop-column.joined w.push.new.self whole
          c.loop-column-test.true (omega (arith, w.if-used-len.true, c.len.ensures, columns)) (cc (w.has.ensures, w.if-has.true))
          (w.to_value.ensures ∙ (w.refer.ensures ∙ cell_in_row c.self.inside.columns.items c.args.index c.loop-column.used w.index.result.now w.to_value.result (omega (arith, w.if-used-len.true, c.len.ensures)) w.index.ensures)) w.in_ok-push.ensures.ok c.loop-column.invariant)
      | else-used-len+in_ok-push-2 w ↦ elim w.else-used-len.branch [
        | else-used-len-via-then-used-len+else-has w' ↦
            rw (w.joined-is, w.used-is) (spread_outside c.args.columns c.loop-column.column c.args.width (drop c.loop-column.used row) c.loop-column.joined w.push-else-used-len.new.self whole
            c.loop-column-test.true (cc (w'.has.ensures, w'.if-has.false)) w.in_ok-push-2.ensures.ok c.loop-column.invariant)
        | else-used-len-via-else-used-len w' ↦
            rw (w.joined-is, w.used-is) (spread_nothing c.args.columns c.loop-column.column c.args.width c.loop-column.used row c.loop-column.joined w.push-else-used-len.new.self whole
            c.loop-column-test.true (omega (arith, w'.if-used-len.false, c.len.ensures, columns)) w.in_ok-push-2.ensures.ok c.loop-column.invariant)
      ]
    ]

pub returns : goal.returns
returns c =
    let below : c.args.index < c.self.inside.len = omega (arith, c.requires, ap (λ gathered. length gathered.rows) c.self.view_is, length-rows_of c.self.inside.len c.self.inside.columns.items) in
    spread_done c.args.columns c.loop-column.column (c.args.width - c.loop-column.column) _ c.loop-column.joined _ (omega (arith, c.loop-column-test.false)) c.loop-column.invariant
    ∙ (ap (λ row. c.args.joined.now ++ spread c.args.columns c.args.width row) (sym (get_or-rows_of c.self.inside.len c.self.inside.columns.items c.args.index below))
    ∙ ap (λ gathered. c.args.joined.now ++ spread c.args.columns c.args.width (get_or gathered.rows c.args.index [])) c.self.view_is)
