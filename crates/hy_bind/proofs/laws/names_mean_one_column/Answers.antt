use Rattle.hy_bind.proofs.Meanings.{one_column, no_column}
use Rattle.hy_bind.proofs.laws.names_mean_one_column.Goals as goal

pub returns : goal.returns
returns c = record { one = one_column; none = no_column }
