use Rattle.std.proofs.Common.{sym, ◌∙◌, arith}
use Rattle.hy_chunk.proofs.Placing.{found_all, found_more, found_passed, none_found}
use Rattle.hy_chunk.proofs.gathering.columns_in.Goals.{then-is_of_set+in_ok-push, else-is_of_set}
use Rattle.hy_chunk.proofs.gathering.columns_in.Goals as goal

pub loop-column-init : goal.loop-column-init
loop-column-init c = none_found c.args.columns c.args.width c.new-found.result.items c.new-found.ensures.items

pub loop-column-preserved : goal.loop-column-preserved
loop-column-preserved c =
    elim c.if-is_of_set.branch [
      | then-is_of_set+in_ok-push w ↦
          rw (w.found-is) (found_more c.args.columns c.args.width c.loop-column.column c.loop-column.found.items w.push.new.self.items
          c.loop-column-test.true (sym c.is_of_set.ensures ∙ w.if-is_of_set.true) w.in_ok-push.ensures.items c.loop-column.invariant)
      | else-is_of_set w ↦
          rw (w.found-is) (found_passed c.args.columns c.args.width c.loop-column.column c.loop-column.found.items
          c.loop-column-test.true (sym c.is_of_set.ensures ∙ w.if-is_of_set.false) c.loop-column.invariant)
    ]

pub returns-clause-within : goal.returns-clause-within
returns-clause-within c = c.loop-column.invariant.within

pub returns-clause-values : goal.returns-clause-values
returns-clause-values c =
    found_all c.args.columns c.args.width c.loop-column.column c.loop-column.found.items (omega (arith, c.loop-column-test.false)) c.loop-column.invariant
