use Rattle.hy_cases.proofs.Bags.{sets_fail}
use Rattle.hy_cases.proofs.neighbours.sets_do_not_suffice.Goals as goal

pub returns : goal.returns
returns c = sets_fail
