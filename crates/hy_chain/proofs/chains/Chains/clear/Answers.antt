use Rattle.std.proofs.Common.{ap, [], List}
use Rattle.hy_chain.specs.Chains.{Undo}
use Rattle.hy_chain.specs.Histories.{Histories}
use Rattle.hy_chain.proofs.Spares.{chain_changed}
use Rattle.hy_chain.proofs.chains.Chains.clear.Goals as goal

pub returns-clause-chains : goal.returns-clause-chains
returns-clause-chains g c =
    chain_changed c.self.inside.positions c.self.inside.lists.chains _ c.args.self.now.chains c.args.pos
    (λ (chain : List (Undo g.row.D.Denot)). []) (ap (λ (h : Histories g.row.D.Denot). h.chains) c.self.view_is) c.requires c.clear.ensures.chains
