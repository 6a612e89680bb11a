use Rattle.hy_world.proofs.RunsLeft.{if_err}
use Rattle.hy_world.proofs.Loops.{step_breaks_off, stepped_near}
use Rattle.hy_world.proofs.world.World.step_logged.Goals as goal

pub returns-in_err-stepped-clause-under_way : goal.returns-in_err-stepped-clause-under_way
returns-in_err-stepped-clause-under_way g c =
    if_err c.from_residual.result _ (step_breaks_off c.args.number c.args.self.now c.step.new.self c.in_err-stepped.ensures.err)

pub returns-in_err-log_entries-clause-under_way : goal.returns-in_err-log_entries-clause-under_way
returns-in_err-log_entries-clause-under_way g c =
    if_err c.from_residual-in_err-log_entries.result _
    (stepped_near c.args.number c.in_ok-stepped.stepped c.args.self.now c.step.new.self c.in_ok-stepped.ensures.step)
