use Rattle.std.proofs.Common.{length}
use Rattle.hy_alone.proofs.saved.+newest_of.Given as goal

-- the savepoints that are left
abbrev pub decreases-newest_of : goal.decreases-newest_of
decreases-newest_of l = length l.saved.now
