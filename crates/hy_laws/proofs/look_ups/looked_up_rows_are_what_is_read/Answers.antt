use Rattle.hy_laws.proofs.AsRead.{looked_up_read}
use Rattle.hy_laws.proofs.look_ups.looked_up_rows_are_what_is_read.Goals as goal

pub returns : goal.returns
returns c = looked_up_read
