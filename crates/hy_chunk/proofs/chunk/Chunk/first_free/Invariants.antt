use Rattle.std.proofs.Common.{◌≡◌, ◌≤◌, ◌-◌, ℕ, ◌<◌, length, true}
use Rattle.std.specs.Prelude.{not}
use Rattle.hy_undo.specs.Places.{is_free}
use Rattle.hy_chunk.specs.Fields.{nth}
use Rattle.hy_chunk.proofs.chunk.Chunk.first_free.Given as goal

-- the positions so far may not take it
abbrev pub invariant-loop-place : goal.invariant-loop-place
invariant-loop-place l = record {
  within : l.place ≤ length l.self-inside.positions.places;
  passed : (k : ℕ) → k < l.place → not (is_free l.watermark (nth l.self-inside.positions.places k)) ≡ true;
}

abbrev pub decreases-loop-place : goal.decreases-loop-place
decreases-loop-place l = l.end - l.place
