use Rattle.std.proofs.Common.{◌≡◌, Result, Ok, Err, Some, None, true, subst, rules}
use Rattle.std.specs.Prelude.{IfOk, OnErr}
use Rattle.hy_redo.specs.declared.errors.AppendError.{AppendError}
use Rattle.hy_render.specs.declared.Outcome.{Outcome}
use Rattle.hy_setting.specs.Kinds.{catalog_kinds}
use Rattle.hy_top.specs.Program.{MayCome}
use Rattle.hy_top.specs.Reports.{KeepsLogOf}
use Rattle.hy_top.proofs.Logging.{if_err, ran_comes, ran_keeps}
use Rattle.hy_top.proofs.logs.logged_by_threads.Goals as goal

pub returns-in_err-ran-clause-cut : goal.returns-in_err-ran-clause-cut
returns-in_err-ran-clause-cut g c =
    let d = g.D.Disk in
    let script = c.args.script in
    let kinds : c.as_slice.result.now ≡ catalog_kinds script.catalog = first_of (cc, search (rules)) in
    let taken : c.take.result ≡ c.args.disk.now = first_of (cc, search (rules)) in
    let is : c.run_threads_logged-ran.result.0 ≡ Err c.in_err-ran.field-0.0 = first_of (cc, search (rules)) in
    let kept = ran_keeps d.clock d.image d.image_since script c.in_ok-setting.field-0.setting c.as_slice.result.now
    c.run_threads_logged-ran.result.0 c.take.result c.run_threads_logged-ran.result.1 c.in_ok-setting.ensures.setting kinds
    (record { typed = c.requires.runs.typed; texts = c.requires.texts }) c.run_threads_logged-ran.ensures.ran in
    if_err c.from_residual-in_err-ran.result _
    (subst (λ (before : _). KeepsLogOf d.clock d.image d.image_since true script None before c.run_threads_logged-ran.result.1) taken
    (subst (λ (r : Result Outcome AppendError). OnErr r (KeepsLogOf d.clock d.image d.image_since true script None c.take.result
    c.run_threads_logged-ran.result.1)) is kept.1))

pub returns-clause-outcome : goal.returns-clause-outcome
returns-clause-outcome g c =
    let d = g.D.Disk in
    let script = c.args.script in
    let is : c.run_threads_logged-ran.result.0 ≡ Ok c.in_ok-ran.field-0 = first_of (cc, search (rules)) in
    let comes = ran_comes d.clock d.image d.image_since c.runs_are_steps.ensures.steps c.runs_are_steps.ensures.ends script
    c.in_ok-setting.field-0.setting c.as_slice.result.now c.run_threads_logged-ran.result.0 c.take.result c.run_threads_logged-ran.result.1
    c.in_ok-setting.ensures.setting c.run_threads_logged-ran.ensures.ran in
    (subst (λ (r : Result Outcome AppendError). IfOk r (λ outcome. MayCome true script outcome)) is comes, c.in_ok-setting.ensures.names)

pub returns-clause-keeps : goal.returns-clause-keeps
returns-clause-keeps g c =
    let d = g.D.Disk in
    let script = c.args.script in
    let kinds : c.as_slice.result.now ≡ catalog_kinds script.catalog = first_of (cc, search (rules)) in
    let taken : c.take.result ≡ c.args.disk.now = first_of (cc, search (rules)) in
    let is : c.run_threads_logged-ran.result.0 ≡ Ok c.in_ok-ran.field-0 = first_of (cc, search (rules)) in
    let kept = ran_keeps d.clock d.image d.image_since script c.in_ok-setting.field-0.setting c.as_slice.result.now
    c.run_threads_logged-ran.result.0 c.take.result c.run_threads_logged-ran.result.1 c.in_ok-setting.ensures.setting kinds
    (record { typed = c.requires.runs.typed; texts = c.requires.texts }) c.run_threads_logged-ran.ensures.ran in
    subst (λ (before : _). KeepsLogOf d.clock d.image d.image_since true script (Some c.in_ok-ran.field-0) before
    c.run_threads_logged-ran.result.1) taken
    (subst (λ (r : Result Outcome AppendError). IfOk r (λ outcome. KeepsLogOf d.clock d.image d.image_since true script (Some outcome)
    c.take.result c.run_threads_logged-ran.result.1)) is kept.0)
