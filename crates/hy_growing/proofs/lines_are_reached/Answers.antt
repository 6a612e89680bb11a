use Rattle.hy_growing.proofs.Lines.{lines_reached, answers_reached}
use Rattle.hy_growing.proofs.lines_are_reached.Goals as goal

pub returns-clause-lines : goal.returns-clause-lines
returns-clause-lines c = lines_reached

pub returns-clause-answers : goal.returns-clause-answers
returns-clause-answers c = answers_reached
