use Rattle.std.proofs.Common.{◌≡◌, ◌≢◌, ℕ, ◌+◌, ◌≤◌, [], get_or, length}
use Rattle.hy_chain.specs.Pruning.{pruned, pruned_behind, in_hand}
use Rattle.hy_chain.specs.Settling.{held, put_back}
use Rattle.hy_chain.proofs.lists.Lists.prune_aside.Given as goal

-- what is aside, in front of what is left of the rest, is the pruned list
abbrev pub invariant-loop-self : goal.invariant-loop-self
invariant-loop-self g l = record {
  told : put_back (get_or l.self.chains l.aside []) (pruned_behind g.D.Image.merged l.cover (in_hand l.kept) (get_or l.self.chains l.list []))
      ≡ pruned g.D.Image.merged l.cover (get_or l.fn.self.chains l.list []);
  others : (i : ℕ) → i ≢ l.list → i ≢ l.aside → get_or l.self.chains i [] ≡ get_or l.fn.self.chains i [];
  lists : length l.self.chains ≡ length l.fn.self.chains;
  room : l.fn.self.room + held l.kept ≤ l.self.room;
}

abbrev pub decreases-loop-self : goal.decreases-loop-self
decreases-loop-self g l = length (get_or l.self.chains l.list [])
