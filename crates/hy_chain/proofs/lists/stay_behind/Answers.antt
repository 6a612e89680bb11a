use Rattle.std.proofs.Common.{◌≡◌, ◌<◌, ◌-◌, ◌+◌, ℕ, Some, sym, ap, ◌∙◌, arith, rules}
use Rattle.hy_prune.specs.declared.Fate.TheVariants.{Keep}
use Rattle.hy_prune.specs.Fates.{fate_of}
use Rattle.hy_chain.specs.Links.{walk}
use Rattle.hy_chain.specs.Settling.{stays_whole}
use Rattle.hy_chain.proofs.Settlings.{stays_on}
use Rattle.hy_chain.proofs.lists.stay_behind.Goals as goal

pub loop-passed-preserved : goal.loop-passed-preserved
loop-passed-preserved g c =
    let len = c.args.head.len - c.loop-passed._passed in
    let left : 0 < len = omega (arith, c.loop-passed-test.true) in
    let less : len - 1 ≡ c.args.head.len - (c.loop-passed._passed + 1) = omega arith in
    let keeps : fate_of c.args.cover.now (Some c.loop-passed.kept) c.in-Some.node.now.stamp.mark ≡ Keep = search rules in
    let node = c.in-Some.node.now in
    let on = stays_on c.args.cover.now (Some c.loop-passed.kept) c.args.nodes.now len c.loop-passed.key node left (sym c.in-Some.ensures) keeps in
    ap (λ (n : ℕ). stays_whole c.args.cover.now (Some node.stamp.mark) (walk c.args.nodes.now n node.older)) (sym less)
    ∙ (sym on ∙ c.loop-passed.invariant)
