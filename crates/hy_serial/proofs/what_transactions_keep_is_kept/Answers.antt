use Rattle.hy_serial.proofs.Keeps.{tests_stay, values_stay}
use Rattle.hy_serial.proofs.what_transactions_keep_is_kept.Goals as goal

pub returns-clause-tests : goal.returns-clause-tests
returns-clause-tests c = tests_stay

pub returns-clause-values : goal.returns-clause-values
returns-clause-values c = values_stay
