use Rattle.std.proofs.Common.{◌≡◌, ◌++◌, drop}
use Rattle.hy_dump.specs.Dump.{values_text}
use Rattle.hy_dump.proofs.put_values.Given as goal

-- what stands there and what is left give the whole
abbrev pub invariant-loop-number : goal.invariant-loop-number
invariant-loop-number l = l.out.items ++ values_text l.number (drop l.number l.row) ≡ l.fn.out.items ++ values_text 0 l.row
