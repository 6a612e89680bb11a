use Rattle.hy_cases.proofs.Unseen.{widths_fail}
use Rattle.hy_cases.proofs.neighbours.widths_matter.Goals as goal

pub returns : goal.returns
returns c = widths_fail
