use Rattle.hy_laws.proofs.Again.{selected_by_read, set_by_read}
use Rattle.hy_laws.proofs.laws.a_row_is_changed_by_what_is_read.Goals as goal

pub returns-clause-selected : goal.returns-clause-selected
returns-clause-selected c = selected_by_read

pub returns-clause-values : goal.returns-clause-values
returns-clause-values c = set_by_read
