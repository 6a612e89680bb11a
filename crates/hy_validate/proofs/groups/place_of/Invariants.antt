use Rattle.std.proofs.Common.{ℕ, ◌<◌, slice_index_or}
use Rattle.hy_validate.specs.declared.groups.Group.{Group}
use Rattle.hy_validate.specs.Groups.{IsOf}
use Rattle.hy_validate.proofs.groups.place_of.Given as goal

-- no group so far is of this table and this first condition
abbrev pub invariant-loop-at : goal.invariant-loop-at
invariant-loop-at l = (k : ℕ) (d : Group) → k < l.at → IsOf l.table l.first (slice_index_or l.groups k d) → ⊥
