use Rattle.std.proofs.Common.{◌≡◌, ◌∙◌, List, ap, subst, false, rules}
use Rattle.hy_bound.specs.declared.schedule.Item.{Item}
use Rattle.hy_machine.specs.declared.Setting.{Setting}
use Rattle.hy_machine.specs.Outcomes.{outcome_of}
use Rattle.hy_machine.specs.Runs.{opening_of, run_of}
use Rattle.hy_setting.specs.Kinds.{catalog_kinds}
use Rattle.hy_world.specs.Logged.{IsDurable}
use Rattle.hy_world.specs.Worlds.{ShowsState}
use Rattle.hy_top.specs.Program.{comes_to, scheduled}
use Rattle.hy_top.specs.Settings.{setting_at}
use Rattle.hy_top.proofs.Logging.{cut_own, if_err, kept_nothing, kept_own, logged_since, keeps_run}
use Rattle.hy_top.proofs.logs.logged_by_schedule.Goals as goal

pub returns-clause-keeps : goal.returns-clause-keeps
returns-clause-keeps g c =
    let d = g.D.Disk in
    let script = c.args.script in
    let own = scheduled script script.schedule in
    let setting : Setting = setting_at script in
    let same : c.in_ok-setting.field-0.setting ≡ setting_at script = c.in_ok-setting.ensures.setting in
    let items : c.as_slice-2.result.now ≡ script.schedule = first_of (cc, search (rules)) in
    let shows = subst (λ (s : Setting). ShowsState s (opening_of s) c.in_ok-world.world) same c.in_ok-world.ensures.shows in
    let is : c.in_ok-outcome.outcome ≡ comes_to own =
    c.in_ok-outcome.ensures.outcome setting shows ∙ ap (λ (schedule : List Item). outcome_of setting (run_of setting schedule)) items in
    kept_own d.clock d.image d.image_since false script c.in_ok-outcome.outcome c.args.disk.now c.run_logged.new.disk is
    (keeps_run d.clock d.image_since own c.in_ok-setting.field-0.setting c.as_slice-2.result.now c.in_ok-world.world c.args.disk.now
    c.run_logged.new.disk same items c.in_ok-world.ensures.shows (record { typed = c.requires.runs.typed; texts = c.requires.texts }) c.run_logged.ensures.moments)
    (logged_since d.image d.image_since own c.in_ok-outcome.outcome (d.clock c.args.disk.now) c.run_logged.new.disk is c.in_ok-outcome.ensures.logged
    (subst (λ (schedule : List Item). IsDurable d.image d.image_since setting (catalog_kinds script.catalog) (run_of setting schedule)
    (d.clock c.args.disk.now) c.run_logged.new.disk) items
    (c.in_ok-outcome.ensures.durable setting (catalog_kinds script.catalog) shows (record { typed = c.requires.runs.typed; texts = c.requires.texts }))))

pub returns-in_err-setting-clause-cut : goal.returns-in_err-setting-clause-cut
returns-in_err-setting-clause-cut g c =
    let d = g.D.Disk in
    if_err c.from_residual.result _ (kept_nothing d.clock d.image d.image_since false c.args.script c.args.disk.now)

pub returns-in_err-world-clause-cut : goal.returns-in_err-world-clause-cut
returns-in_err-world-clause-cut g c =
    let d = g.D.Disk in
    if_err c.from_residual-in_err-world.result _ (kept_nothing d.clock d.image d.image_since false c.args.script c.args.disk.now)

pub returns-in_err-outcome-clause-cut : goal.returns-in_err-outcome-clause-cut
returns-in_err-outcome-clause-cut g c =
    let d = g.D.Disk in
    let script = c.args.script in
    let same : c.in_ok-setting.field-0.setting ≡ setting_at script = c.in_ok-setting.ensures.setting in
    let items : c.as_slice-2.result.now ≡ script.schedule = first_of (cc, search (rules)) in
    if_err c.from_residual-in_err-outcome.result _
    (cut_own d.clock d.image d.image_since false script c.args.disk.now c.run_logged.new.disk
    (keeps_run d.clock d.image_since (scheduled script script.schedule) c.in_ok-setting.field-0.setting c.as_slice-2.result.now c.in_ok-world.world
    c.args.disk.now c.run_logged.new.disk same items c.in_ok-world.ensures.shows (record { typed = c.requires.runs.typed; texts = c.requires.texts })
    c.run_logged.ensures.moments))
