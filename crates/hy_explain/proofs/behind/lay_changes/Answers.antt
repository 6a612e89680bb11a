use Rattle.std.proofs.Common.{true, false, ◌∙◌, rules, tests}
use Rattle.std.proofs.lemmas.Bool.{eq-eqb}
use Rattle.hy_explain.proofs.Laid.{change_laid}
use Rattle.hy_explain.proofs.behind.lay_changes.Goals as goal
use Rattle.hy_explain.proofs.behind.lay_changes.Goals.{then-change-table+in_ok-lay_change, else-change-table}

pub loop-change-preserved : goal.loop-change-preserved
loop-change-preserved c = λ pos.
    elim c.if-change-table.branch [
      | then-change-table+in_ok-lay_change w ↦
          change_laid c.args.table c.args.changes.now c.loop-change.cells c.if-change-table.cells c.loop-change.change-index c.change-item.result true
          c.loop-change-test.true c.change-item.is (eq-eqb _ _ w.if-change-table.true) (w.cells-is ∙ w.in_ok-lay_change.ensures) pos ∙ c.loop-change.invariant pos
      | else-change-table w ↦
          change_laid c.args.table c.args.changes.now c.loop-change.cells c.if-change-table.cells c.loop-change.change-index c.change-item.result false
          c.loop-change-test.true c.change-item.is (search (tests, rules)) w.cells-is pos ∙ c.loop-change.invariant pos
    ]
