use Rattle.std.proofs.Common.{Ok, sym}
use Rattle.hy_machine.specs.Runs.{opening_of, run_of}
use Rattle.hy_world.proofs.RunsLeft.{near_done}
use Rattle.hy_world.proofs.Logs.{kept_since, is_durable, logs_run}
use Rattle.hy_world.proofs.Runs.{run_told, all_of}
use Rattle.hy_world.proofs.world.World.run_logged.Goals as goal

pub returns-clause-outcome : goal.returns-clause-outcome
returns-clause-outcome g c = λ setting shows.
    run_told {E = Unit {0}} (Ok c.in_ok-finish.field-0) c.ends_are_the_machines.ensures c.runs_are_steps.ensures.ends setting c.args.schedule.now
    c.args.self c.run.new.self shows c.in_ok-run.ensures.follows c.in_ok-finish.ensures.tells

pub returns-clause-logged : goal.returns-clause-logged
returns-clause-logged g c =
    let d = g.D.Disk in
    record {
      entries = c.run.new.self.core.entries;
      tell = sym c.in_ok-finish.ensures.order;
      kept = kept_since d.clock d.image d.image_since g.met.D.Disk.now_alone c.args.self.core.entries c.run.new.self.core.entries c.args.log
          c.run.new.log c.args.disk.now c.run.new.disk c.requires.log c.run.ensures.stays c.in_ok-run.ensures.kept c.run.ensures.logs;
    }

pub returns-clause-durable : goal.returns-clause-durable
returns-clause-durable g c =
    let d = g.D.Disk in
    let kept = kept_since d.clock d.image d.image_since g.met.D.Disk.now_alone c.args.self.core.entries c.run.new.self.core.entries c.args.log
    c.run.new.log c.args.disk.now c.run.new.disk c.requires.log c.run.ensures.stays c.in_ok-run.ensures.kept c.run.ensures.logs in
    λ setting kinds shows typed.
    is_durable d.image d.image_since c.logs_recover_tables.ensures setting kinds (run_of setting c.args.schedule.now) c.run.new.self
    (d.clock c.args.disk.now) c.run.new.disk (c.in_ok-run.ensures.follows setting (opening_of setting) shows) typed kept

pub returns-in_err-run-clause-moments : goal.returns-in_err-run-clause-moments
returns-in_err-run-clause-moments g c =
    let d = g.D.Disk in
    λ setting kinds shows typed.
    logs_run d.clock d.image_since c.logs_recover_tables.ensures c.entries_tell_changes.ensures setting kinds (run_of setting c.args.schedule.now)
    c.args.self.core.entries c.run.new.self c.args.disk.now c.run.new.disk (c.in_err-run.ensures.under_way setting (opening_of setting) shows) typed c.run.ensures.logs

pub returns-in_err-finish-clause-moments : goal.returns-in_err-finish-clause-moments
returns-in_err-finish-clause-moments g c =
    let d = g.D.Disk in
    λ setting kinds shows typed.
    logs_run d.clock d.image_since c.logs_recover_tables.ensures c.entries_tell_changes.ensures setting kinds (run_of setting c.args.schedule.now)
    c.args.self.core.entries c.run.new.self c.args.disk.now c.run.new.disk
    (near_done (all_of c.args.schedule.now) c.args.self c.run.new.self c.in_ok-run.ensures.follows setting (opening_of setting) shows) typed c.run.ensures.logs

pub returns-clause-moments : goal.returns-clause-moments
returns-clause-moments g c =
    let d = g.D.Disk in
    λ setting kinds shows typed.
    logs_run d.clock d.image_since c.logs_recover_tables.ensures c.entries_tell_changes.ensures setting kinds (run_of setting c.args.schedule.now)
    c.args.self.core.entries c.run.new.self c.args.disk.now c.run.new.disk
    (near_done (all_of c.args.schedule.now) c.args.self c.run.new.self c.in_ok-run.ensures.follows setting (opening_of setting) shows) typed c.run.ensures.logs
