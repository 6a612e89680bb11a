use Rattle.hy_script.proofs.Runs.{once}
use Rattle.hy_script.proofs.read_once.Goals as goal

pub returns : goal.returns
returns c = once
