use Rattle.hy_growing.proofs.Lines.{lines_answered, answers_ready, closings_end, others_stay}
use Rattle.hy_growing.proofs.lines_are_answered.Goals as goal

pub returns-clause-answered : goal.returns-clause-answered
returns-clause-answered c = lines_answered c.runs_are_steps.ensures.falls

pub returns-clause-ready : goal.returns-clause-ready
returns-clause-ready c = answers_ready

pub returns-clause-others : goal.returns-clause-others
returns-clause-others c = others_stay

pub returns-clause-closed : goal.returns-clause-closed
returns-clause-closed c = closings_end
