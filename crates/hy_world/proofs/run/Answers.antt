use Rattle.hy_world.proofs.Runs.{run_told}
use Rattle.hy_world.proofs.run.Goals as goal

pub returns-in-Ok : goal.returns-in-Ok
returns-in-Ok c =
    run_told c.finish.result c.ends_are_the_machines.ensures c.runs_are_steps.ensures.ends c.args.setting c.args.schedule.now c.in_ok-world.world c.run.new.self
    c.in_ok-world.ensures.shows c.in-Ok.ensures.follows c.finish.ensures.tells
