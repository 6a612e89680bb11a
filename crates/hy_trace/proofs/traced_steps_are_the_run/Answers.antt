use Rattle.hy_trace.proofs.Taken.{taken_are_the_run}
use Rattle.hy_trace.proofs.traced_steps_are_the_run.Goals as goal

pub returns : goal.returns
returns c = taken_are_the_run
