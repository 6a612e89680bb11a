use Rattle.std.proofs.Common.{◌≡◌, ◌≤◌, drop}
use Rattle.hy_bind.specs.Literals.{number_of, number_after}
use Rattle.hy_bind.proofs.literals.number.Given as goal

-- the rest of the digits completes the number
abbrev pub invariant-loop-digit : goal.invariant-loop-digit
invariant-loop-digit l = record {
  small : l.number ≤ 9223372036854775808;
  same : number_after l.number (drop l.digit-index l.digits) ≡ number_of l.digits;
}
