use Rattle.std.proofs.Common.{◌≡◌, map}
use Rattle.std.specs.List.{range_with_len}
use Rattle.hy_gen.specs.Accounts.{first_row}
use Rattle.hy_gen.proofs.account_rows.Given as goal

abbrev pub invariant-loop-account : goal.invariant-loop-account
invariant-loop-account l = l.rows.items ≡ map first_row (range_with_len 1 l.account)
