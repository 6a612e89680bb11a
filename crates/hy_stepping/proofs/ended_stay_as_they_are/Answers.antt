use Rattle.hy_stepping.proofs.EndedStay.{ended_stay}
use Rattle.hy_stepping.proofs.ended_stay_as_they_are.Goals as goal

pub returns : goal.returns
returns c = ended_stay
