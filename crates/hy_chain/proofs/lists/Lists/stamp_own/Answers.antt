use Rattle.std.proofs.Common.{◌≡◌, Some, sym, ap, ◌∙◌}
use Rattle.hy_stamp.specs.declared.Stamp.{Stamp}
use Rattle.hy_chain.specs.Chains.{newest}
use Rattle.hy_chain.proofs.Edits.{restamped}
use Rattle.hy_chain.proofs.lists.Lists.stamp_own.Goals as goal

pub returns-in-Some-clause-chains : goal.returns-in-Some-clause-chains
returns-in-Some-clause-chains g c =
    let seen : Some c.take_newest-image.result.0 ≡ Some c.in-Some.stamp = sym (ap newest c.take_newest-image.ensures.first) ∙ sym c.in-Some.ensures in
    let same : c.take_newest-image.result.0.mark ≡ c.args.id = let e = c.if-stamp-id.true in let own : c.take_newest-image.result.0 ≡ c.in-Some.stamp = cc in ap (λ (s : Stamp). s.mark) own ∙ e in
    restamped _ _ _ c.args.list _ c.requires c.take_newest-image.ensures.first c.take_newest-image.ensures.chains c.args.id c.args.time same c.push_reserved.ensures.chains
