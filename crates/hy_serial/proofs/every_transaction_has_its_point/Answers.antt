use Rattle.hy_serial.proofs.Points.{every_point}
use Rattle.hy_serial.proofs.every_transaction_has_its_point.Goals as goal

pub returns : goal.returns
returns c = every_point
