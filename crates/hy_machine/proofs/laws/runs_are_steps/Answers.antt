use Rattle.hy_machine.proofs.Ends.{runs_end}
use Rattle.hy_machine.proofs.Falls.{step_falls}
use Rattle.hy_machine.proofs.Reached.{run_is_steps}
use Rattle.hy_machine.proofs.laws.runs_are_steps.Goals as goal

pub returns-clause-steps : goal.returns-clause-steps
returns-clause-steps c = run_is_steps

pub returns-clause-falls : goal.returns-clause-falls
returns-clause-falls c = step_falls

pub returns-clause-ends : goal.returns-clause-ends
returns-clause-ends c = runs_end
