use Rattle.std.proofs.Common.{◌≡◌, ℕ, ◌<◌, false, get_or}
use Rattle.hy_validate.specs.declared.keys.Keyed.{Keyed}
use Rattle.hy_validate.specs.TreeHits.{is_hit_number}
use Rattle.hy_validate.proofs.keys.first_of_key.Given as goal

-- the change hits no record so far
abbrev pub invariant-loop-place : goal.invariant-loop-place
invariant-loop-place l = (k : ℕ) (d : Keyed) → k < l.place-index → is_hit_number l.records l.change (get_or l.places k d).number ≡ false
