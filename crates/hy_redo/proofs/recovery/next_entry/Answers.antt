use Rattle.std.proofs.Common.{◌≡◌, ◌∷◌, ◌++◌, List, ℕ, Err, ap, sym, subst}
use Rattle.std.proofs.lemmas.Result.{err_from_is_err_and}
use Rattle.hy_log_record.specs.declared.BodyError.{BodyError}
use Rattle.hy_redo.specs.Recovery.{IsBroken}
use Rattle.hy_redo.specs.Tests.{IsNext}
use Rattle.hy_redo.proofs.Redoing.{broken_whatever, next_found, stops_body}
use Rattle.hy_redo.proofs.recovery.next_entry.Goals as goal

pub returns-in_err-entry-clause-stop : goal.returns-in_err-entry-clause-stop
returns-in_err-entry-clause-stop c =
    let tables = c.args.tables.now in
    let gate = c.in-Some.gate.now in
    let record_bytes = c.in-Some.record.now in
    let e : c.args.bytes.now ≡ gate ∷ record_bytes = c.in-Some.ensures.cases.0 in
    let p = err_from_is_err_and c.from_residual.result c.from_residual.ensures.1 in
    let parts = c.in-Some-split_record.ensures.parts in
    rw (p.1, p.2)
    (stops_body tables c.args.last c.args.bytes.now c.in_err-entry.field-0.0 (λ q.
    λ more. subst (λ (bs : List ℕ). IsBroken tables c.args.last (bs ++ more)) (sym e)
    (broken_whatever tables c.args.last gate record_bytes c.if-gate-eq0.false c.bodies_are_one.ensures.lengths c.in-Some-split_record.body.now
    c.in-Some-split_record.rest.now parts.0 parts.1 (c.in_err-entry.ensures.none (ap (λ (x : BodyError). Err x) q)) more)))

pub returns-clause-next : goal.returns-clause-next
returns-clause-next c =
    let tables = c.args.tables.now in
    let gate = c.in-Some.gate.now in
    let record_bytes = c.in-Some.record.now in
    let e : c.args.bytes.now ≡ gate ∷ record_bytes = c.in-Some.ensures.cases.0 in
    let parts = c.in-Some-split_record.ensures.parts in
    let rest = c.in-Some-split_record.rest.now in
    let entry = c.in_ok-entry.entry in
    subst (λ (bs : List ℕ). IsNext tables c.args.last bs entry rest) (sym e)
    (next_found tables c.args.last gate record_bytes c.if-gate-eq0.false c.bodies_are_one.ensures.lengths c.in-Some-split_record.body.now rest
    parts.0 parts.1 entry c.in_ok-entry.ensures.found)
