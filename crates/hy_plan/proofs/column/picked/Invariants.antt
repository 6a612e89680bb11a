use Rattle.std.proofs.Common.{◌≡◌, ℕ, pos, ◌+◌, ◌-◌, ◌≤◌, length, map, take, get_or, vec_len, vec_capacity}
use Rattle.hy_plan.proofs.column.picked.Given as goal

-- the numbers at the places so far, and room for the rest
abbrev pub invariant-loop-place : goal.invariant-loop-place
invariant-loop-place l = record {
  picked : l.found.items ≡ map (λ (place : ℕ). get_or l.known place (pos 0)) (take l.place-index l.places);
  room : vec_len l.found + (length l.places - l.place-index) ≤ vec_capacity l.found;
}
