use Rattle.std.proofs.Common.{◌≡◌, ℕ, ◌<◌, false, get_or}
use Rattle.hy_validate.specs.TreeHits.{is_hit_number}
use Rattle.hy_validate.proofs.groups.first_in.Given as goal

-- the change hits no record so far
abbrev pub invariant-loop-number : goal.invariant-loop-number
invariant-loop-number l = (k : ℕ) → k < l.number-index → is_hit_number l.records l.change (get_or l.number-items k 0) ≡ false
