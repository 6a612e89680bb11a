use Rattle.hy_stepping.proofs.Told.{sessions_tell}
use Rattle.hy_stepping.proofs.sessions_tell.Goals as goal

pub returns : goal.returns
returns c = sessions_tell
