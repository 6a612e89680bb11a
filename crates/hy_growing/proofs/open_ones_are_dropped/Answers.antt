use Rattle.hy_growing.proofs.Dropping.{drops_begin, drops_on, drops_end, open_dropped}
use Rattle.hy_growing.proofs.Rounds.{drops_run}
use Rattle.hy_growing.proofs.open_ones_are_dropped.Goals as goal

pub returns-clause-begins : goal.returns-clause-begins
returns-clause-begins c = drops_begin

pub returns-clause-goes_on : goal.returns-clause-goes_on
returns-clause-goes_on c = drops_on c.runs_are_steps.ensures.falls

pub returns-clause-ends : goal.returns-clause-ends
returns-clause-ends c = drops_end

pub returns-clause-all : goal.returns-clause-all
returns-clause-all c = open_dropped c.runs_are_steps.ensures.falls

pub returns-clause-runs : goal.returns-clause-runs
returns-clause-runs c = drops_run c.runs_are_steps.ensures.falls c.runs_are_steps.ensures.ends
