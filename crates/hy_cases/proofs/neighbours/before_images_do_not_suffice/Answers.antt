use Rattle.hy_cases.proofs.Unseen.{before_images_fail}
use Rattle.hy_cases.proofs.neighbours.before_images_do_not_suffice.Goals as goal

pub returns : goal.returns
returns c = before_images_fail
