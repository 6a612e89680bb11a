use Rattle.hy_serial.proofs.Alike.{replies_alike, tables_alike}
use Rattle.hy_serial.proofs.no_one_reads_what_was_rolled_back.Goals as goal

pub returns-clause-replies : goal.returns-clause-replies
returns-clause-replies c = replies_alike

pub returns-clause-tables : goal.returns-clause-tables
returns-clause-tables c = tables_alike
