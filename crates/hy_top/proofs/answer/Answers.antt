use Rattle.std.proofs.Common.{inl, inr, subst, sym, Ok}
use Rattle.std.proofs.Math.Logic.{⊎_elim}
use Rattle.hy_script.specs.Reading.{Reads}
use Rattle.hy_top.proofs.Answering.{done_answers, done_is_no_refusal, read_fits, leaves_spelled, leaves_nothing}
use Rattle.hy_top.proofs.Logging.{same_syncs}
use Rattle.hy_top.proofs.answer.Goals as goal

pub perform-requires-clause-spells : goal.perform-requires-clause-spells
perform-requires-clause-spells g c =
    let bytes = c.args.bytes.now in
    let script = c.in-Ok.script in
    λ lifetimes outlive.
    subst (λ options. Reads bytes options (Ok script)) (sym (c.what_is_read_fits.ensures.options bytes _ script c.in-Ok.ensures)) c.in-Ok.ensures

pub returns-in-Ok-clause-answers : goal.returns-in-Ok-clause-answers
returns-in-Ok-clause-answers g c =
    done_answers c.args.command c.args.bytes.now _ c.in-Ok.script _ _ _ _ c.read_once.ensures
    (record {
      steps = c.runs_are_steps.ensures.steps;
      ends = c.runs_are_steps.ensures.ends;
      lawful = c.ends_are_lawful.ensures.lawful;
      serial = c.ends_are_lawful.ensures.serial;
    })
    (read_fits c.args.command c.args.bytes.now c.requires.within c.what_is_read_fits.ensures.script c.what_is_read_fits.ensures.options)
    (subst (λ options. Reads c.args.bytes.now options (Ok c.in-Ok.script)) c.options_of.ensures c.in-Ok.ensures)
    (⊎_elim (λ p. inl (p.0, p.2)) (λ r. inr r) c.perform.ensures.does)

pub returns-in-Ok-clause-leaves : goal.returns-in-Ok-clause-leaves
returns-in-Ok-clause-leaves g c =
    let d = g.D.Disk in
    λ keeps. leaves_spelled d.held d.clock d.image d.image_since c.args.command c.args.bytes.now c.in-Ok.script _ _ _ _ c.read_once.ensures
    (subst (λ options. Reads c.args.bytes.now options (Ok c.in-Ok.script)) c.options_of.ensures c.in-Ok.ensures) (c.perform.ensures.leaves keeps)

pub returns-in-Ok-clause-refused_disk : goal.returns-in-Ok-clause-refused_disk
returns-in-Ok-clause-refused_disk g c =
    λ two. absurd (done_is_no_refusal c.args.command c.in-Ok.script (g.D.Disk.held c.args.disk.now) c.perform.result.status c.perform.result.outcome
    (g.W.Sink.written c.args.sink.now) (g.W.Sink.written c.perform.new.sink) (⊎_elim (λ p. inl (p.0, p.2)) (λ r. inr r) c.perform.ensures.does) two)

pub returns-in-Err-Refused-clause-leaves : goal.returns-in-Err-Refused-clause-leaves
returns-in-Err-Refused-clause-leaves g c =
    let d = g.D.Disk in
    λ keeps. leaves_nothing d.held d.clock d.image d.image_since c.args.command c.args.bytes.now _ _ _ c.refuse.ensures.nothing

pub returns-in-Err-Refused-clause-syncs : goal.returns-in-Err-Refused-clause-syncs
returns-in-Err-Refused-clause-syncs g c =
    let d = g.D.Disk in
    λ other. same_syncs d.held d.clock d.image d.image_since c.args.disk.now

pub returns-in-Err-OutOfMemory-clause-leaves : goal.returns-in-Err-OutOfMemory-clause-leaves
returns-in-Err-OutOfMemory-clause-leaves g c =
    let d = g.D.Disk in
    λ keeps. leaves_nothing d.held d.clock d.image d.image_since c.args.command c.args.bytes.now _ _ _ c.without_outcome.ensures.nothing

pub returns-in-Err-OutOfMemory-clause-syncs : goal.returns-in-Err-OutOfMemory-clause-syncs
returns-in-Err-OutOfMemory-clause-syncs g c =
    let d = g.D.Disk in
    λ other. same_syncs d.held d.clock d.image d.image_since c.args.disk.now
