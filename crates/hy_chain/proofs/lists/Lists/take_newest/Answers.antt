use Rattle.std.proofs.Common.{◌<◌, ◌∷◌, List, [], get_or, length, drop, arith, sym, ap, ◌∙◌, subst, refl}
use Rattle.std.specs.Prelude.{IsSome}
use Rattle.std.proofs.Math.ListN.{set}
use Rattle.hy_chain.specs.Chains.{Undo}
use Rattle.hy_chain.specs.Links.{undo_of}
use Rattle.hy_chain.specs.Histories.{Histories}
use Rattle.hy_chain.proofs.Linking.{first_node, parted, taken, taken_walk, chain_read, own_lies, some_len, changed_sound, changed_chains, length_chains}
use Rattle.hy_chain.proofs.lists.Lists.take_newest.Goals as goal

pub remove-node-requires : goal.remove-node-requires
remove-node-requires g c =
    let sizes = ap (λ (h : Histories g.row.D.Denot). length h.chains) c.self.view_is in
    let within : c.args.list < length c.self.inside.heads.items = omega (arith, c.requires.within, sizes, length_chains c.self.inside.nodes c.self.inside.heads.items) in
    let own = own_lies c.self.inside.nodes c.self.inside.heads.items c.self.invariant c.args.list c.index-head.result.now within c.index-head.ensures in
    let counts = some_len c.self.inside.nodes c.self.inside.heads.items c.self.invariant c.args.list c.index-head.result.now within c.index-head.ensures in
    let lengths = ap (λ (h : Histories g.row.D.Denot). length (get_or h.chains c.args.list [])) c.self.view_is in
    let some : 0 < c.index-head.result.now.len = omega (arith, c.requires.some, counts, lengths) in
    let node = first_node c.self.inside.nodes c.index-head.result.now.len c.index-head.result.now.key (c.self.invariant.keys c.args.list) own some in
    subst IsSome (sym node.1) refl

pub invariant_of-self : goal.invariant_of-self
invariant_of-self g c =
    let sizes = ap (λ (h : Histories g.row.D.Denot). length h.chains) c.self.view_is in
    let within : c.args.list < length c.self.inside.heads.items = omega (arith, c.requires.within, sizes, length_chains c.self.inside.nodes c.self.inside.heads.items) in
    let own = own_lies c.self.inside.nodes c.self.inside.heads.items c.self.invariant c.args.list c.index-head.result.now within c.index-head.ensures in
    let counts = some_len c.self.inside.nodes c.self.inside.heads.items c.self.invariant c.args.list c.index-head.result.now within c.index-head.ensures in
    let lengths = ap (λ (h : Histories g.row.D.Denot). length (get_or h.chains c.args.list [])) c.self.view_is in
    let some : 0 < c.index-head.result.now.len = omega (arith, c.requires.some, counts, lengths) in
    let p = parted c.self.inside.nodes c.index-head.result.now.len c.index-head.result.now.key (c.self.invariant.keys c.args.list) c.remove-node.result own some c.remove-node.ensures.value in
    changed_sound c.self.inside.nodes c.remove-node.new.self c.self.inside.heads.items c.self.invariant c.args.list _ p.rest
    (taken c.self.inside.nodes c.remove-node.new.self c.self.inside.heads.items c.self.invariant c.args.list c.index-head.result.now within c.index-head.ensures some c.remove-node.result p
    c.remove-node.ensures.updates c.remove-node.ensures.len)

pub returns-clause-first : goal.returns-clause-first
returns-clause-first g c =
    let sizes = ap (λ (h : Histories g.row.D.Denot). length h.chains) c.self.view_is in
    let within : c.args.list < length c.self.inside.heads.items = omega (arith, c.requires.within, sizes, length_chains c.self.inside.nodes c.self.inside.heads.items) in
    let own = own_lies c.self.inside.nodes c.self.inside.heads.items c.self.invariant c.args.list c.index-head.result.now within c.index-head.ensures in
    let counts = some_len c.self.inside.nodes c.self.inside.heads.items c.self.invariant c.args.list c.index-head.result.now within c.index-head.ensures in
    let lengths = ap (λ (h : Histories g.row.D.Denot). length (get_or h.chains c.args.list [])) c.self.view_is in
    let some : 0 < c.index-head.result.now.len = omega (arith, c.requires.some, counts, lengths) in
    let p = parted c.self.inside.nodes c.index-head.result.now.len c.index-head.result.now.key (c.self.invariant.keys c.args.list) c.remove-node.result own some c.remove-node.ensures.value in
    let read = ap (λ (h : Histories g.row.D.Denot). get_or h.chains c.args.list []) (sym c.self.view_is)
    ∙ (chain_read c.self.inside.nodes c.self.inside.heads.items c.args.list c.index-head.result.now within c.index-head.ensures ∙ p.walks) in
    read ∙ ap (λ (xs : List (Undo g.row.D.Denot)). undo_of c.remove-node.result ∷ xs) (sym (ap (drop 1) read))

pub returns-clause-chains : goal.returns-clause-chains
returns-clause-chains g c =
    let sizes = ap (λ (h : Histories g.row.D.Denot). length h.chains) c.self.view_is in
    let within : c.args.list < length c.self.inside.heads.items = omega (arith, c.requires.within, sizes, length_chains c.self.inside.nodes c.self.inside.heads.items) in
    let own = own_lies c.self.inside.nodes c.self.inside.heads.items c.self.invariant c.args.list c.index-head.result.now within c.index-head.ensures in
    let counts = some_len c.self.inside.nodes c.self.inside.heads.items c.self.invariant c.args.list c.index-head.result.now within c.index-head.ensures in
    let lengths = ap (λ (h : Histories g.row.D.Denot). length (get_or h.chains c.args.list [])) c.self.view_is in
    let some : 0 < c.index-head.result.now.len = omega (arith, c.requires.some, counts, lengths) in
    let p = parted c.self.inside.nodes c.index-head.result.now.len c.index-head.result.now.key (c.self.invariant.keys c.args.list) c.remove-node.result own some c.remove-node.ensures.value in
    let read = chain_read c.self.inside.nodes c.self.inside.heads.items c.args.list c.index-head.result.now within c.index-head.ensures ∙ p.walks in
    changed_chains c.self.inside.nodes c.remove-node.new.self c.self.inside.heads.items c.self.invariant c.args.list _ p.rest _
    (taken c.self.inside.nodes c.remove-node.new.self c.self.inside.heads.items c.self.invariant c.args.list c.index-head.result.now within c.index-head.ensures some c.remove-node.result p
    c.remove-node.ensures.updates c.remove-node.ensures.len)
    (taken_walk c.self.inside.nodes c.remove-node.new.self c.self.inside.heads.items c.self.invariant c.args.list c.index-head.result.now within c.index-head.ensures c.remove-node.result p c.remove-node.ensures.updates
    ∙ sym (ap (drop 1) read))
    ∙ ap (λ (h : Histories g.row.D.Denot). set h.chains c.args.list (drop 1 (get_or h.chains c.args.list []))) c.self.view_is
