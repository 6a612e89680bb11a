use Rattle.std.proofs.Common.{◌≡◌, ℕ, ◌-◌, List, [], get_or}
use Rattle.hy_chain.specs.Chains.{seen}
use Rattle.hy_chain.specs.Links.{walk, Lies}
use Rattle.hy_chain.proofs.lists.Lists.see.Given as goal

-- what is seen from here on is what is seen from the head on
abbrev pub invariant-loop-passed : goal.invariant-loop-passed
invariant-loop-passed g l = record {
  told : seen g.D.Image.applied l.viewer l.base (walk l.self-inside.nodes (l._passed-end - l._passed) l.key)
      ≡ seen g.D.Image.applied l.viewer l.fn.base (get_or l.self.chains l.list []);
  lies : (keys : List ℕ) × Lies l.self-inside.nodes (l._passed-end - l._passed) l.key keys;
}
