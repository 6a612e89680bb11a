use Rattle.hy_growing.proofs.Lines.{lines_on}
use Rattle.hy_growing.proofs.Answering.{answers_whole}
use Rattle.hy_growing.proofs.lines_go_on.Goals as goal

pub returns-clause-go_on : goal.returns-clause-go_on
returns-clause-go_on c = lines_on

pub returns-clause-whole : goal.returns-clause-whole
returns-clause-whole c = answers_whole c.runs_are_steps.ensures.falls
