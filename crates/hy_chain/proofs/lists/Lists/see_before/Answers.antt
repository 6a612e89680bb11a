use Rattle.std.proofs.Common.{◌<◌, [], length, get_or, sym, ap, ◌∙◌, arith}
use Rattle.hy_chain.specs.Chains.{before_newest}
use Rattle.hy_chain.specs.Histories.{Histories}
use Rattle.hy_chain.proofs.Linking.{chain_read, own_lies, first_node, parted, length_chains}
use Rattle.hy_chain.proofs.lists.Lists.see_before.Goals as goal

pub returns-in-Some : goal.returns-in-Some
returns-in-Some g c =
    let sizes = ap (λ (h : Histories g.row.D.Denot). length h.chains) c.self.view_is in
    let within : c.args.list < length c.self.inside.heads.items = omega (arith, c.requires, sizes, length_chains c.self.inside.nodes c.self.inside.heads.items) in
    let own = own_lies c.self.inside.nodes c.self.inside.heads.items c.self.invariant c.args.list c.index-head.result.now within c.index-head.ensures in
    let some : 0 < c.index-head.result.now.len = omega (arith, c.if-head-eq0.false) in
    let p = parted c.self.inside.nodes c.index-head.result.now.len c.index-head.result.now.key (c.self.invariant.keys c.args.list) c.in-Some.node.now own some (sym c.in-Some.ensures) in
    let read = ap (λ (h : Histories g.row.D.Denot). get_or h.chains c.args.list []) (sym c.self.view_is)
    ∙ (chain_read c.self.inside.nodes c.self.inside.heads.items c.args.list c.index-head.result.now within c.index-head.ensures ∙ p.walks) in
    c.apply.ensures ∙ sym (ap (before_newest g.D.Image.applied c.args.base.now) read)

pub returns-in_default : goal.returns-in_default
returns-in_default g c =
    let sizes = ap (λ (h : Histories g.row.D.Denot). length h.chains) c.self.view_is in
    let within : c.args.list < length c.self.inside.heads.items = omega (arith, c.requires, sizes, length_chains c.self.inside.nodes c.self.inside.heads.items) in
    let own = own_lies c.self.inside.nodes c.self.inside.heads.items c.self.invariant c.args.list c.index-head.result.now within c.index-head.ensures in
    let some : 0 < c.index-head.result.now.len = omega (arith, c.if-head-eq0.false) in
    let node = first_node c.self.inside.nodes c.index-head.result.now.len c.index-head.result.now.key (c.self.invariant.keys c.args.list) own some in
    absurd (let e = c.in_default.ensures in let f = node.1 in cc)
