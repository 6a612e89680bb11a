use Rattle.hy_world.proofs.SomeSchedules.{some_run_told}
use Rattle.hy_world.proofs.threads.run_threads.Goals as goal

pub returns : goal.returns
returns g c =
    some_run_told c.finish.result c.ends_are_the_machines.ensures c.runs_are_steps.ensures.steps c.runs_are_steps.ensures.ends c.args.setting
    c.in_ok-world_by_threads.field-0 c.in_ok-world_by_threads.ensures c.finish.ensures.tells
