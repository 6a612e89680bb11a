use Rattle.std.proofs.Common.{◌≡◌, ◌∙◌, ap, map, arith}
use Rattle.std.specs.List.{range_with_len}
use Rattle.hy_gen.specs.Accounts.{first_row, first_rows}
use Rattle.hy_gen.proofs.Steps.{row_more}
use Rattle.hy_gen.proofs.account_rows.Goals as goal

pub loop-account-preserved : goal.loop-account-preserved
loop-account-preserved c = row_more c.loop-account.account _ _ _ c.loop-account.invariant c.account_row.ensures c.in_ok-push.ensures.items

pub returns : goal.returns
unfolding first_rows
returns c =
    let end : c.loop-account.account ≡ 64 = omega arith in
    c.from_vec.ensures ∙ c.loop-account.invariant ∙ ap (λ n. map first_row (range_with_len 1 n)) end
