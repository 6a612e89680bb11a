use Rattle.std.proofs.Common.{◌≡◌, ◌≢◌, ℕ, ◌≤◌, [], get_or, length}
use Rattle.hy_chain.specs.Settling.{put_back}
use Rattle.hy_chain.proofs.lists.Lists.move_back.Given as goal

-- what is still aside, put in front of the list, gives the same
abbrev pub invariant-loop-self : goal.invariant-loop-self
invariant-loop-self g l = record {
  told : put_back (get_or l.self.chains l.aside []) (get_or l.self.chains l.list [])
      ≡ put_back (get_or l.fn.self.chains l.aside []) (get_or l.fn.self.chains l.list []);
  others : (i : ℕ) → i ≢ l.list → i ≢ l.aside → get_or l.self.chains i [] ≡ get_or l.fn.self.chains i [];
  lists : length l.self.chains ≡ length l.fn.self.chains;
  room : l.fn.self.room ≤ l.self.room;
}

abbrev pub decreases-loop-self : goal.decreases-loop-self
decreases-loop-self g l = length (get_or l.self.chains l.aside [])
