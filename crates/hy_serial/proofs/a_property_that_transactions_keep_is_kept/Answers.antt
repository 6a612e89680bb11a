use Rattle.hy_serial.proofs.Keeps.{what_is_kept}
use Rattle.hy_serial.proofs.a_property_that_transactions_keep_is_kept.Goals as goal

pub returns : goal.returns
returns g c = what_is_kept g.P.Property.holds
