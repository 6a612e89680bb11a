use Rattle.hy_log_record.proofs.Entries.{one_entry}
use Rattle.hy_log_record.proofs.Records.{lengths_tell, one_record}
use Rattle.hy_log_record.proofs.laws.bodies_are_one.Goals as goal

pub returns-clause-bodies : goal.returns-clause-bodies
returns-clause-bodies c = one_entry

pub returns-clause-lengths : goal.returns-clause-lengths
returns-clause-lengths c = lengths_tell

pub returns-clause-records : goal.returns-clause-records
returns-clause-records c = one_record
