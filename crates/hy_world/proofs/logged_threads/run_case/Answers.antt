use Rattle.std.proofs.Common.{◌∙◌, ap, refl, subst, sym}
use Rattle.hy_outside.specs.Faults.{Rose}
use Rattle.hy_redo.specs.declared.errors.AppendError.TheVariants.{OutOfMemory}
use Rattle.hy_world.specs.declared.grouped.KeptLog.{KeptLog}
use Rattle.hy_world.specs.Grouped.{AreLogged}
use Rattle.hy_world.specs.LoggedRuns.{IsWorldLogged}
use Rattle.hy_world.proofs.GroupedWorlds.{opened_logged, some_parts, untouched}
use Rattle.hy_world.proofs.logged_threads.run_case.Goals as goal
use Rattle.hy_refinement.specs.Shows.{blank_core}

pub make_ready-requires-clause-setting : goal.make_ready-requires-clause-setting
make_ready-requires-clause-setting g c = c.requires.setting

pub make_ready-requires-clause-kinds : goal.make_ready-requires-clause-kinds
make_ready-requires-clause-kinds g c = c.requires.kinds

pub make_ready-requires-clause-runnable : goal.make_ready-requires-clause-runnable
make_ready-requires-clause-runnable g c = c.requires.runnable

pub make_ready-requires-clause-typed : goal.make_ready-requires-clause-typed
make_ready-requires-clause-typed g c = c.requires.typed

pub returns-in_default-clause-ran : goal.returns-in_default-clause-ran
returns-in_default-clause-ran g c =
    let d = g.D.Disk in
    untouched d.clock d.image d.image_since c.args.setting c.args.kinds.now OutOfMemory c.args.log.disk c.args.log.disk refl

pub returns-in_default-clause-fault : goal.returns-in_default-clause-fault
returns-in_default-clause-fault g c = λ is. absurd (cc is)

pub returns-in_default-clause-steady : goal.returns-in_default-clause-steady
returns-in_default-clause-steady g c = λ other. refl

pub add_log-requires : goal.add_log-requires
add_log-requires g c = some_parts c.in-Ok.made.parts.items c.in-Ok.ensures.chunks blank_core c.in-Ok.ensures.parts_are

pub returns-in-Err-clause-ran : goal.returns-in-Err-clause-ran
returns-in-Err-clause-ran g c =
    let d = g.D.Disk in
    untouched d.clock d.image d.image_since c.args.setting c.args.kinds.now OutOfMemory c.args.log.disk c.in-Err.log.disk
    (ap (λ (log : KeptLog _). log.disk) c.in-Err.ensures.back)

pub returns-in-Err-clause-fault : goal.returns-in-Err-clause-fault
returns-in-Err-clause-fault g c = λ is. absurd (cc is)

pub returns-in-Err-clause-steady : goal.returns-in-Err-clause-steady
returns-in-Err-clause-steady g c = let d = g.D.Disk in λ other. ap (λ (log : KeptLog _). d.faults log.disk) c.in-Err.ensures.back

pub run_shared-parts-requires-after_bounds : goal.run_shared-parts-requires-after_bounds
run_shared-parts-requires-after_bounds g c κs within =
    let d = g.D.Disk in
    let k = g.K.Case in
    let made = c.in-Ok.ensures in
    subst (λ sessions. AreLogged d.clock d.image d.image_since d.faults k.setting k.kinds k.time k.before k.failed c.in-Ok-add_log.parts.items sessions)
    (sym made.sessions_are)
    (opened_logged d.clock d.image d.image_since d.faults k.time k.before k.failed k.setting k.kinds made.chunks c.in-Ok.made.parts.items made.plain
    c.args.log c.in-Ok-add_log.parts.items made.parts_are made.shared c.in-Ok-add_log.ensures.parts c.requires.empty c.requires.before)

pub same-shapes : goal.same-shapes
same-shapes g c = refl

pub come_back-requires-clause-shared : goal.come_back-requires-clause-shared
come_back-requires-clause-shared g c = c.run_shared-parts.ensures.shared

pub come_back-requires-clause-ended : goal.come_back-requires-clause-ended
come_back-requires-clause-ended g c = c.run_shared-parts.ensures.ended

pub come_back-requires-clause-shapes : goal.come_back-requires-clause-shapes
come_back-requires-clause-shapes g c = c.in-Ok.ensures.shapes_are

pub come_back-requires-clause-per_table : goal.come_back-requires-clause-per_table
come_back-requires-clause-per_table g c = c.in-Ok.ensures.per_table_is

pub returns-clause-ran : goal.returns-clause-ran
returns-clause-ran g c =
    let d = g.D.Disk in
    let k = g.K.Case in
    let before = c.args.log.disk in
    let after = c.come_back.result.1 in
    let came = c.come_back.ensures.ran before c.requires.before c.args.log.log c.requires.empty.logs in
    subst (λ setting. IsWorldLogged d.clock d.image d.image_since setting c.args.kinds.now c.come_back.result.0 before after) (sym c.requires.setting)
    (subst (λ kinds. IsWorldLogged d.clock d.image d.image_since k.setting kinds c.come_back.result.0 before after) (sym c.requires.kinds) came)

pub returns-clause-fault : goal.returns-clause-fault
returns-clause-fault g c =
    let d = g.D.Disk in
    λ is. subst (λ failed. Rose failed (d.faults c.come_back.result.1)) c.requires.before.failed_is (c.come_back.ensures.fault is)

pub returns-clause-steady : goal.returns-clause-steady
returns-clause-steady g c = λ other. c.come_back.ensures.steady other ∙ c.requires.before.failed_is
