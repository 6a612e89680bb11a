use Rattle.std.proofs.Common.{◌≡◌, Some, get_or, rules, subst}
use Rattle.hy_gathered.specs.Groups.{IsTallyOf}
use Rattle.hy_gathered.specs.Shares.{IsShareOf, share_of}
use Rattle.hy_gathered.specs.declared.tally.Grouping.{Grouping}
use Rattle.hy_gathered.proofs.Shared.{share_added}
use Rattle.hy_gathered.proofs.pieces.Pieces.merge_shares.Goals as goal

pub loop-share-preserved : goal.loop-share-preserved
loop-share-preserved c =
    let rows = c.args.self.now in
    let number = c.loop-share.share-index in
    let share = c.in-Some.share in
    let there : get_or c.args.shares.now number c.share-item.result ≡ Some share = search rules in
    let same : share.grouping ≡ c.args.grouping = search rules in
    let this : IsTallyOf c.args.grouping (share_of number rows) share.tally =
    subst (λ (g : Grouping). IsTallyOf g (share_of number rows) share.tally) same
    (subst (IsShareOf rows number) there (c.requires number c.share-item.result c.loop-share-test.true)) in
    share_added c.args.grouping rows number c.loop-share.all share.tally c.merge.new.self c.loop-share.invariant this c.in_ok-merge.ensures.rows
    c.in_ok-merge.ensures.groups
