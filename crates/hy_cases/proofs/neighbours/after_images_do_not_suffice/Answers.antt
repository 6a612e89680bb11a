use Rattle.hy_cases.proofs.Unseen.{after_images_fail}
use Rattle.hy_cases.proofs.neighbours.after_images_do_not_suffice.Goals as goal

pub returns : goal.returns
returns c = after_images_fail
