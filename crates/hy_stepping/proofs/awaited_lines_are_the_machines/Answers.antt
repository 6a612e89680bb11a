use Rattle.hy_stepping.proofs.Awaited.{awaited_ready}
use Rattle.hy_stepping.proofs.awaited_lines_are_the_machines.Goals as goal

pub returns : goal.returns
returns c = awaited_ready
