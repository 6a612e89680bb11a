use Rattle.hy_growing.proofs.Between.{lines_between, empty_between}
use Rattle.hy_growing.proofs.sessions_stay_between_lines.Goals as goal

pub returns-clause-begins : goal.returns-clause-begins
returns-clause-begins c = empty_between

pub returns-clause-goes_on : goal.returns-clause-goes_on
returns-clause-goes_on c = lines_between c.runs_are_steps.ensures.falls
