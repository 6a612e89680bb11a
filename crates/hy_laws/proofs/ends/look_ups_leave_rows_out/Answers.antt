use Rattle.hy_laws.proofs.Ended.{rows_are_left_out}
use Rattle.hy_laws.proofs.ends.look_ups_leave_rows_out.Goals as goal

pub returns : goal.returns
returns c = rows_are_left_out
