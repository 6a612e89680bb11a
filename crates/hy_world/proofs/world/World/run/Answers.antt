use Rattle.std.proofs.Common.{Result, Ok, Err}
use Rattle.std.specs.Prelude.{OnErr}
use Rattle.hy_world.proofs.RunsLeft.{breaks_late, if_err}
use Rattle.hy_world.proofs.Logs.{logs_then}
use Rattle.hy_world.proofs.Loops.{all_items, all_rounds, schedule_breaks_off}
use Rattle.hy_world.proofs.world.World.run.Goals as goal

on_err : {T E : Type 0} (r : Result T E) (P Q : Type 0) → (P → Q) → OnErr r P → OnErr r Q
on_err (Ok x) P Q f h = tt
on_err (Err e) P Q f h = f h

pub returns-in_err-run_items-clause-under_way : goal.returns-in_err-run_items-clause-under_way
returns-in_err-run_items-clause-under_way g c =
    if_err c.from_residual.result _
    (schedule_breaks_off c.args.schedule.now c.args.self.now c.run_items.new.self c.in_err-run_items.ensures.under_way)

pub returns-clause-under_way : goal.returns-clause-under_way
returns-clause-under_way g c =
    on_err c.run_rounds.result _ _ (λ near.
    breaks_late (all_items c.args.schedule.now) all_rounds c.args.self.now c.run_items.new.self c.run_rounds.new.self c.in_ok-run_items.ensures.follows near)
    c.run_rounds.ensures.under_way

pub returns-clause-logs : goal.returns-clause-logs
returns-clause-logs g c = logs_then g.D.Disk.clock g.D.Disk.image_since _ _ _ _ _ _ c.run_items.ensures.logs c.run_rounds.ensures.logs
