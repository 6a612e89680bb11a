use Rattle.std.proofs.Common.{◌<◌, ◌∷◌, [], get_or, length, arith, ap, ◌∙◌}
use Rattle.std.proofs.Math.ListN.{set}
use Rattle.hy_chain.specs.Histories.{Histories}
use Rattle.hy_chain.proofs.Linking.{pushed, pushed_walk, changed_sound, changed_chains, len_fits, length_chains}
use Rattle.hy_chain.proofs.lists.Lists.push_reserved.Goals as goal

pub overflow_add-head : goal.overflow_add-head
overflow_add-head g c =
    let sizes = ap (λ (h : Histories g.row.D.Denot). length h.chains) c.self.view_is in
    let within : c.args.list < length c.self.inside.heads.items = omega (arith, c.requires.within, sizes, length_chains c.self.inside.nodes c.self.inside.heads.items) in
    let fits = len_fits c.self.inside.nodes c.self.inside.heads.items c.self.invariant c.args.list c.index-head.result.now within c.index-head.ensures in
    omega (arith, fits, c.len-count.ensures, c.len-count.type_inv, c.insert_reserved-key.ensures.len)

pub invariant_of-self : goal.invariant_of-self
invariant_of-self g c =
    let sizes = ap (λ (h : Histories g.row.D.Denot). length h.chains) c.self.view_is in
    let within : c.args.list < length c.self.inside.heads.items = omega (arith, c.requires.within, sizes, length_chains c.self.inside.nodes c.self.inside.heads.items) in
    changed_sound _ _ _ c.self.invariant _ _ _
    (pushed _ _ _ c.self.invariant c.args.list c.index-head.result.now c.insert_reserved-key.result c.args.stamp c.args.image within c.index-head.ensures
    c.insert_reserved-key.ensures.was_vacant c.insert_reserved-key.ensures.updates c.insert_reserved-key.ensures.len)

pub returns-clause-chains : goal.returns-clause-chains
returns-clause-chains g c =
    let sizes = ap (λ (h : Histories g.row.D.Denot). length h.chains) c.self.view_is in
    let within : c.args.list < length c.self.inside.heads.items = omega (arith, c.requires.within, sizes, length_chains c.self.inside.nodes c.self.inside.heads.items) in
    let changed = pushed _ _ _ c.self.invariant c.args.list c.index-head.result.now c.insert_reserved-key.result c.args.stamp c.args.image within c.index-head.ensures
    c.insert_reserved-key.ensures.was_vacant c.insert_reserved-key.ensures.updates c.insert_reserved-key.ensures.len in
    changed_chains _ _ _ c.self.invariant _ _ _ _ changed
    (pushed_walk _ _ _ c.self.invariant c.args.list c.index-head.result.now c.insert_reserved-key.result c.args.stamp c.args.image within c.index-head.ensures
    c.insert_reserved-key.ensures.was_vacant c.insert_reserved-key.ensures.updates)
    ∙ ap (λ (h : Histories g.row.D.Denot). set h.chains c.args.list (record { stamp = c.args.stamp; image = c.args.image } ∷ get_or h.chains c.args.list [])) c.self.view_is
