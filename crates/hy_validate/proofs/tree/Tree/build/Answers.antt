use Rattle.std.proofs.Common.{◌≡◌, ℕ, length, arith, subst}
use Rattle.hy_validate.specs.Filed.{AreFiled}
use Rattle.hy_validate.proofs.Sought.{tree_from_sort}
use Rattle.hy_validate.proofs.tree.Tree.build.Goals as goal

pub invariant_of-result : goal.invariant_of-result
invariant_of-result c =
    let all : c.loop-number.number ≡ length c.args.records.now = omega arith in
    tree_from_sort c.args.records.now c.loop-number.keyed c.sort.new.self c.loop-number.groups.items
    (subst (λ (n : ℕ). AreFiled c.args.records.now n c.loop-number.keyed c.loop-number.groups.items) all c.loop-number.invariant)
    c.sort.ensures.columns c.sort.ensures.permuted c.sort.ensures.sorted
