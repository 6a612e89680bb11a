use Rattle.std.proofs.Common.{ℕ, ◌<◌, ◌∙◌, subst}
use Rattle.hy_dump.proofs.Pieces.{value_put}
use Rattle.hy_dump.proofs.put_values.Goals as goal

pub loop-number-preserved : goal.loop-number-preserved
loop-number-preserved c =
    let number : ℕ = c.loop-number.number in
    value_put _ _ _ _ c.args.row.now number c.to_value.result (subst (λ (n : ℕ). number < n) c.len-number-end.ensures c.loop-number-test.true)
    (c.to_value.ensures ∙ c.refer.ensures c.to_value.result) c.loop-number.invariant c.in_ok-put_comma.ensures c.in_ok-print.ensures.ok
