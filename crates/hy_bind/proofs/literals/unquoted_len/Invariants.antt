use Rattle.std.proofs.Common.{◌≡◌, ◌+◌, ◌-◌, ◌<◌, ◌≤◌, length, drop}
use Rattle.hy_bind.specs.Literals.{unquoted, unquoted_rest}
use Rattle.hy_bind.proofs.literals.unquoted_len.Given as goal

-- the rest completes the count
abbrev pub invariant-loop-next : goal.invariant-loop-next
invariant-loop-next l = record {
  counted : l.length + length (unquoted_rest (drop l.offset l.text)) ≡ length (unquoted l.text);
  below : l.length < l.offset;
  within : l.offset ≤ length l.text + 1;
}

abbrev pub decreases-loop-next : goal.decreases-loop-next
decreases-loop-next l = length l.text + 1 - l.offset
