use Rattle.std.proofs.Common.{◌≡◌, ◌≤◌, [], get_or, length}
use Rattle.std.proofs.Math.ListN.{set}
use Rattle.hy_chain.proofs.lists.Lists.clear.Given as goal

-- the other chains are as they were
abbrev pub invariant-loop-self : goal.invariant-loop-self
invariant-loop-self g l = record {
  others : set l.self.chains l.list [] ≡ set l.fn.self.chains l.list [];
  positions : length l.self.chains ≡ length l.fn.self.chains;
  room : l.fn.self.room ≤ l.self.room;
}

abbrev pub decreases-loop-self : goal.decreases-loop-self
decreases-loop-self g l = length (get_or l.self.chains l.list [])
