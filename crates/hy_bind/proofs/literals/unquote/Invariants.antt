use Rattle.std.proofs.Common.{◌≡◌, ◌+◌, ◌-◌, ◌++◌, ◌≤◌, length, drop}
use Rattle.hy_bind.specs.Literals.{unquoted, unquoted_rest}
use Rattle.hy_bind.proofs.literals.unquote.Given as goal

-- the rest completes the bytes
abbrev pub invariant-loop-byte : goal.invariant-loop-byte
invariant-loop-byte l = record {
  said : l.bytes.items ++ unquoted_rest (drop l.offset l.text) ≡ unquoted l.text;
  within : l.offset ≤ length l.text + 1;
}

abbrev pub decreases-loop-byte : goal.decreases-loop-byte
decreases-loop-byte l = length l.text + 1 - l.offset
