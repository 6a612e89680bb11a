use Rattle.std.proofs.Common.{◌≡◌, ◌<◌, ◌-◌, [], List, true, None, Some, length, get_or, sym, ap, ◌∙◌, subst, arith, rules}
use Rattle.hy_prune.specs.declared.Fate.TheVariants.{Keep, Merge}
use Rattle.hy_prune.specs.Fates.{fate_of}
use Rattle.hy_chain.specs.Chains.{Undo}
use Rattle.hy_chain.specs.Histories.{Histories}
use Rattle.hy_chain.specs.Links.{walk}
use Rattle.hy_chain.specs.Settling.{stays_whole, SecondMerges}
use Rattle.hy_chain.proofs.Linking.{chain_read, length_chains, opened_twice, ended}
use Rattle.hy_chain.proofs.Settlings.{stays_on, keeps_by}
use Rattle.hy_chain.proofs.lists.Lists.outlook.Goals as goal

pub returns-in_default : goal.returns-in_default
returns-in_default g c =
    let nodes = c.self.inside.nodes in
    let head = c.index-head.result.now in
    let sizes = ap (λ (h : Histories g.row.D.Denot). length h.chains) c.self.view_is in
    let within : c.args.list < length c.self.inside.heads.items = omega (arith, c.requires, sizes, length_chains nodes c.self.inside.heads.items) in
    let read = ap (λ (h : Histories g.row.D.Denot). get_or h.chains c.args.list []) (sym c.self.view_is)
    ∙ chain_read nodes c.self.inside.heads.items c.args.list head within c.index-head.ensures in
    ap (λ (chain : List (Undo g.row.D.Denot)). stays_whole c.args.cover.now None chain) (read ∙ ended nodes head.len head.key (sym c.in_default.ensures))

pub returns-in_default-get : goal.returns-in_default-get
returns-in_default-get g c =
    let nodes = c.self.inside.nodes in
    let head = c.index-head.result.now in
    let newest = c.in-Some.newest.now in
    let sizes = ap (λ (h : Histories g.row.D.Denot). length h.chains) c.self.view_is in
    let within : c.args.list < length c.self.inside.heads.items = omega (arith, c.requires, sizes, length_chains nodes c.self.inside.heads.items) in
    let read = ap (λ (h : Histories g.row.D.Denot). get_or h.chains c.args.list []) (sym c.self.view_is)
    ∙ chain_read nodes c.self.inside.heads.items c.args.list head within c.index-head.ensures in
    let some : 0 < head.len = omega (arith, c.if-head-eq0.false) in
    let keeps : fate_of c.args.cover.now None newest.stamp.mark ≡ Keep = search rules in
    ap (λ (chain : List (Undo g.row.D.Denot)). stays_whole c.args.cover.now None chain) read
    ∙ (stays_on c.args.cover.now None nodes head.len head.key newest some (sym c.in-Some.ensures) keeps
    ∙ ap (λ (chain : List (Undo g.row.D.Denot)). stays_whole c.args.cover.now (Some newest.stamp.mark) chain)
    (ended nodes (head.len - 1) newest.older (sym c.in_default-get.ensures)))

pub returns-in-Keep : goal.returns-in-Keep
returns-in-Keep g c =
    let nodes = c.self.inside.nodes in
    let head = c.index-head.result.now in
    let newest = c.in-Some.newest.now in
    let second = c.in-Some-get.second.now in
    let sizes = ap (λ (h : Histories g.row.D.Denot). length h.chains) c.self.view_is in
    let within : c.args.list < length c.self.inside.heads.items = omega (arith, c.requires, sizes, length_chains nodes c.self.inside.heads.items) in
    let read = ap (λ (h : Histories g.row.D.Denot). get_or h.chains c.args.list []) (sym c.self.view_is)
    ∙ chain_read nodes c.self.inside.heads.items c.args.list head within c.index-head.ensures in
    let two : 1 < head.len = omega (arith, c.if-head-eq0.false, c.if-head-eq1.false) in
    let keeps : fate_of c.args.cover.now None newest.stamp.mark ≡ Keep = search rules in
    let keeps_too : fate_of c.args.cover.now (Some newest.stamp.mark) second.stamp.mark ≡ Keep = search rules in
    ap (λ (chain : List (Undo g.row.D.Denot)). stays_whole c.args.cover.now None chain)
    (read ∙ opened_twice nodes head.len head.key newest second two (sym c.in-Some.ensures) (sym c.in-Some-get.ensures))
    ∙ (keeps_by _ _ keeps ∙ (keeps_by _ _ keeps_too ∙ (sym c.stay_behind.ensures ∙ c.if-stay_behind.true)))

pub returns-in-Merge : goal.returns-in-Merge
returns-in-Merge g c =
    let nodes = c.self.inside.nodes in
    let head = c.index-head.result.now in
    let newest = c.in-Some.newest.now in
    let second = c.in-Some-get.second.now in
    let sizes = ap (λ (h : Histories g.row.D.Denot). length h.chains) c.self.view_is in
    let within : c.args.list < length c.self.inside.heads.items = omega (arith, c.requires, sizes, length_chains nodes c.self.inside.heads.items) in
    let read = ap (λ (h : Histories g.row.D.Denot). get_or h.chains c.args.list []) (sym c.self.view_is)
    ∙ chain_read nodes c.self.inside.heads.items c.args.list head within c.index-head.ensures in
    let two : 1 < head.len = omega (arith, c.if-head-eq0.false, c.if-head-eq1.false) in
    let keeps : fate_of c.args.cover.now None newest.stamp.mark ≡ Keep = search rules in
    let stays : stays_whole c.args.cover.now (Some newest.stamp.mark) (walk nodes (head.len - 2) second.older) ≡ true = search rules in
    let merges : fate_of c.args.cover.now (Some newest.stamp.mark) second.stamp.mark ≡ Merge = search rules in
    let lies = read ∙ opened_twice nodes head.len head.key newest second two (sym c.in-Some.ensures) (sym c.in-Some-get.ensures) in
    subst (SecondMerges c.args.cover.now) (sym lies) (keeps, merges, stays)
