use Rattle.std.proofs.Common.{Some, sym, ◌∙◌, ap}
use Rattle.std.proofs.lemmas.Result.{err_from_is_err_and}
use Rattle.hy_log_record.specs.Reading.{changes_at}
use Rattle.hy_log_record.proofs.Loops.{changes_go_on, changes_end, changes_done}
use Rattle.hy_log_record.proofs.reading.read_changes.Goals as goal

pub returns-in_err-change : goal.returns-in_err-change
returns-in_err-change c =
    let p = err_from_is_err_and c.from_residual.result c.from_residual.ensures.1 in
    let total = changes_at c.args.tables.now c.args.count c.args.bytes.now in
    rw (p.1, p.2)
    (changes_end c.args.tables.now c.args.count total c.in_err-change.field-0.0 c.loop.changes.items c.loop.counter c.loop.rest.now c.loop-test.true
    c.in_err-change.ensures c.loop.invariant)

pub loop-preserved : goal.loop-preserved
loop-preserved c =
    let total = changes_at c.args.tables.now c.args.count c.args.bytes.now in
    rw c.in_ok-push.ensures.items
    (changes_go_on c.args.tables.now c.args.count total c.loop.changes.items c.loop.counter c.loop.rest.now c.in_ok-change.change
    c.in_ok-change.after.now c.loop-test.true c.in_ok-change.ensures c.loop.invariant)

pub returns : goal.returns
returns c =
    changes_done c.args.tables.now c.args.count (changes_at c.args.tables.now c.args.count c.args.bytes.now) c.loop.changes.items c.loop.counter
    c.loop.rest.now c.loop-test.false c.loop.invariant
    ∙ ap (λ cs. Some (cs, c.loop.rest.now)) (sym c.from_vec.ensures)
