use Rattle.std.proofs.Common.{◌≡◌, ◌+◌, ◌-◌, ◌*◌, drop, get_or, sym, arith}
use Rattle.hy_bind.proofs.Numbers.{next_digit, too_large}
use Rattle.hy_bind.proofs.literals.number.Goals as goal

-- ten times what is so large is beyond already
pub returns-then-number-gt922337203685477580 : goal.returns-then-number-gt922337203685477580
returns-then-number-gt922337203685477580 c =
    let next = next_digit c.loop-digit.number c.args.digits.now c.loop-digit.digit-index _ c.loop-digit-test.true c.loop-digit.invariant.same in
    let more = 10 * c.loop-digit.number + (get_or c.args.digits.now c.loop-digit.digit-index 0 - 48) in
    sym (too_large more (drop (c.loop-digit.digit-index + 1) c.args.digits.now) _ (omega (arith, c.if-number-gt922337203685477580.true)) next)

pub returns-then-number-gt9223372036854775808 : goal.returns-then-number-gt9223372036854775808
returns-then-number-gt9223372036854775808 c =
    let next = next_digit c.loop-digit.number c.args.digits.now c.loop-digit.digit-index _ c.loop-digit-test.true c.loop-digit.invariant.same in
    let digit : c.from.result ≡ get_or c.args.digits.now c.loop-digit.digit-index 0 - 48 = cc in
    sym (too_large (10 * c.loop-digit.number + (get_or c.args.digits.now c.loop-digit.digit-index 0 - 48)) (drop (c.loop-digit.digit-index + 1) c.args.digits.now) _ (rw (← digit) c.if-number-gt9223372036854775808.true) next)
