use Rattle.hy_cases.proofs.Visits.{revisits_fail}
use Rattle.hy_cases.proofs.neighbours.revisits_do_not_add_up.Goals as goal

pub returns : goal.returns
returns c = revisits_fail
