use Rattle.hy_kernel.proofs.Lanes.{packed_lanes, packed_turned, equal_says, unequal_says, below_says, at_most_says, above_says, at_least_says}
use Rattle.hy_kernel.proofs.words.pack_16.Goals as goal

pub returns-in-Eq : goal.returns-in-Eq
returns-in-Eq c = let lanes = c.lanes_of-left.ensures in packed_lanes c.requires lanes.same lanes.fit c.ranges.right c.in-Eq.is equal_says

pub returns-in-Ne : goal.returns-in-Ne
returns-in-Ne c = let lanes = c.lanes_of-left.ensures in packed_lanes c.requires lanes.same lanes.fit c.ranges.right c.in-Ne.is unequal_says

pub returns-in-Lt : goal.returns-in-Lt
returns-in-Lt c = let lanes = c.lanes_of-left.ensures in packed_lanes c.requires lanes.same lanes.fit c.ranges.right c.in-Lt.is below_says

pub returns-in-Le : goal.returns-in-Le
returns-in-Le c = let lanes = c.lanes_of-left.ensures in packed_lanes c.requires lanes.same lanes.fit c.ranges.right c.in-Le.is at_most_says

pub returns-in-Gt : goal.returns-in-Gt
returns-in-Gt c = let lanes = c.lanes_of-left.ensures in packed_turned c.requires lanes.same lanes.fit c.ranges.right c.in-Gt.is above_says

pub returns-in-Ge : goal.returns-in-Ge
returns-in-Ge c = let lanes = c.lanes_of-left.ensures in packed_turned c.requires lanes.same lanes.fit c.ranges.right c.in-Ge.is at_least_says
