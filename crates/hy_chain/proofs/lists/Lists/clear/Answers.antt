use Rattle.std.proofs.Common.{List, [], get_or, length, drop, ap, ◌∙◌, arith}
use Rattle.std.proofs.Math.ListN.{set}
use Rattle.std.proofs.lemmas.List.{length-set}
use Rattle.hy_chain.specs.Chains.{Undo}
use Rattle.hy_chain.proofs.Edits.{set-set}
use Rattle.hy_chain.proofs.lists.Lists.clear.Goals as goal

pub loop-self-preserved : goal.loop-self-preserved
loop-self-preserved g c =
    let rest = drop 1 (get_or c.loop-self.self.chains c.args.list []) in
    let e = c.take_newest-image.ensures.chains in
    record {
      others = ap (λ (cs : List (List (Undo g.row.D.Denot))). set cs c.args.list []) e ∙ (set-set c.loop-self.self.chains c.args.list rest [] ∙ c.loop-self.invariant.others);
      positions = ap length e ∙ (length-set c.loop-self.self.chains c.args.list rest ∙ c.loop-self.invariant.positions);
      room = let r = c.loop-self.invariant.room in let q = c.take_newest-image.ensures.room in omega (arith, r, q);
    }
