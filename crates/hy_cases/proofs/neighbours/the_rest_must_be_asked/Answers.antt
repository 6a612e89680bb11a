use Rattle.hy_cases.proofs.Plans.{restrictions_fail}
use Rattle.hy_cases.proofs.neighbours.the_rest_must_be_asked.Goals as goal

pub returns : goal.returns
returns c = restrictions_fail
