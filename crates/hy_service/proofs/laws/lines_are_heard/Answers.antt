use Rattle.hy_service.proofs.Hearings.{lines_heard}
use Rattle.hy_service.proofs.laws.lines_are_heard.Goals as goal

pub returns : goal.returns
returns c = lines_heard
