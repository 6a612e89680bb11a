use Rattle.hy_growing.proofs.Answering.{turns_run}
use Rattle.hy_growing.proofs.turns_are_runs.Goals as goal

pub returns : goal.returns
returns c = turns_run c.runs_are_steps.ensures.falls
