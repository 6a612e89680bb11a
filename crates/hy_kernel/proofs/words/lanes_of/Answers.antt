use Rattle.std.proofs.Common.{◌∙◌, sym, arith}
use Rattle.std.proofs.lemmas.List.{same_lists}
use Rattle.hy_kernel.proofs.words.lanes_of.Goals as goal

pub returns-clause-same : goal.returns-clause-same
returns-clause-same c =
    let v = c.loop-i.invariant in
    same_lists c.loop-i.lanes c.args.values.now (v.size ∙ sym c.requires) (λ k d l. v.same k d (omega (arith, v.size, l, c.loop-i-test.false)))
