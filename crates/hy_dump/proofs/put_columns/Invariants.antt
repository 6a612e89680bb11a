use Rattle.std.proofs.Common.{◌≡◌, ◌++◌, drop}
use Rattle.hy_dump.specs.Dump.{columns_text}
use Rattle.hy_dump.proofs.put_columns.Given as goal

-- what stands there and what is left give the whole
abbrev pub invariant-loop-number : goal.invariant-loop-number
invariant-loop-number l = l.out.items ++ columns_text l.key l.number (drop l.number l.columns) ≡ l.fn.out.items ++ columns_text l.key 0 l.columns
