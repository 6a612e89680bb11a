use Rattle.hy_laws.proofs.Again.{select_reads_again}
use Rattle.hy_laws.proofs.laws.what_is_read_is_read_again.Goals as goal

pub returns : goal.returns
returns c = select_reads_again
