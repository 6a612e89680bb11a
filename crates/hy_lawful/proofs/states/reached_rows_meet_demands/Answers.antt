use Rattle.hy_lawful.specs.Rows.{passes}
use Rattle.hy_lawful.proofs.ViewSteps.{reached_rows_meet}
use Rattle.hy_lawful.proofs.states.reached_rows_meet_demands.Goals as goal

pub returns : goal.returns
returns c = λ test. reached_rows_meet (passes test)
