use Rattle.std.proofs.Common.{sym, ◌∙◌, ap, refl, Some}
use Rattle.std.proofs.lemmas.Result.{err_from_is_err_and}
use Rattle.hy_log_record.specs.Reading.{values_at}
use Rattle.hy_log_record.proofs.Loops.{values_go_on, values_end, values_done}
use Rattle.hy_log_record.proofs.reading.read_values.Goals as goal

pub returns-in_err-value : goal.returns-in_err-value
returns-in_err-value c =
    let p = err_from_is_err_and c.from_residual-in_err-value.result c.from_residual-in_err-value.ensures.1 in
    let total = values_at c.args.kinds.now c.args.bytes.now in
    rw (p.1, p.2)
    (values_end c.args.kinds.now total c.in_err-value.field-0.0 c.loop-kind.values.items c.loop-kind.kind-index _ _ c.loop-kind.rest.now
    c.loop-kind-test.true refl c.in_err-value.ensures c.loop-kind.invariant)

pub loop-kind-preserved : goal.loop-kind-preserved
loop-kind-preserved c =
    let total = values_at c.args.kinds.now c.args.bytes.now in
    rw c.in_ok-push.ensures.items
    (values_go_on c.args.kinds.now total c.loop-kind.values.items c.loop-kind.kind-index _ _ c.loop-kind.rest.now c.in_ok-value.value
    c.in_ok-value.after.now c.loop-kind-test.true refl c.in_ok-value.ensures c.loop-kind.invariant)

pub returns : goal.returns
returns c =
    values_done c.args.kinds.now (values_at c.args.kinds.now c.args.bytes.now) c.loop-kind.values.items c.loop-kind.kind-index c.loop-kind.rest.now
    c.loop-kind-test.false c.loop-kind.invariant
    ∙ ap (λ vs. Some (vs, c.loop-kind.rest.now)) (sym (c.in_ok-row.ensures ∙ c.as_slice.ensures.value))
