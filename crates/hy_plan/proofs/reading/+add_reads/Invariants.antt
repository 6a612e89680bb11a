use Rattle.std.proofs.Common.{length}
use Rattle.hy_plan.proofs.reading.+add_reads.Given as goal

abbrev pub decreases-add_reads : goal.decreases-add_reads
decreases-add_reads l = length l.left.tables.now
