use Rattle.std.proofs.Common.{◌<◌, [], length, get_or, sym, ap, ◌∙◌, arith, List}
use Rattle.hy_chain.specs.Chains.{Undo}
use Rattle.hy_chain.specs.Histories.{Histories}
use Rattle.hy_chain.proofs.Linking.{chain_read, own_lies, length_chains, walk_length}
use Rattle.hy_chain.proofs.lists.Lists.count.Goals as goal

pub returns : goal.returns
returns g c =
    let sizes = ap (λ (h : Histories g.row.D.Denot). length h.chains) c.self.view_is in
    let within : c.args.list < length c.self.inside.heads.items = omega (arith, c.requires, sizes, length_chains c.self.inside.nodes c.self.inside.heads.items) in
    let head = c.index-head.result.now in
    let own = own_lies c.self.inside.nodes c.self.inside.heads.items c.self.invariant c.args.list head within c.index-head.ensures in
    let read = ap (λ (h : Histories g.row.D.Denot). get_or h.chains c.args.list []) (sym c.self.view_is)
    ∙ chain_read c.self.inside.nodes c.self.inside.heads.items c.args.list head within c.index-head.ensures in
    sym (ap (λ (chain : List (Undo g.row.D.Denot)). length chain) read
    ∙ walk_length c.self.inside.nodes head.len head.key (c.self.invariant.keys c.args.list) own)
