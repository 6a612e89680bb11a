use Rattle.hy_serial.proofs.Replays.{replaying_gives}
use Rattle.hy_serial.proofs.replaying_the_order_gives_what_was_printed.Goals as goal

pub returns : goal.returns
returns c = replaying_gives
