use Rattle.std.proofs.Common.{◌≡◌, ℕ, ◌<◌, length, false}
use Rattle.hy_value.specs.declared.Cmp.TheVariants.{Eq}
use Rattle.hy_bound.specs.Condition.{Compare}
use Rattle.hy_bound.specs.Predicate.{truth_at}
use Rattle.hy_bound.specs.declared.predicate.Side.TheVariants.{Literal}
use Rattle.hy_undo.specs.Places.{sees}
use Rattle.hy_chunk.specs.Fields.{nth}
use Rattle.hy_chunk.specs.Settled.{Settles}
use Rattle.hy_chunk.proofs.chunk.Chunk.find_among_all.Given as goal

abbrev pub invariant-loop-place : goal.invariant-loop-place
invariant-loop-place l = record {
  table : l.self-inside.table ≡ l.initial.self-inside.table;
  first : l.self-inside.first ≡ l.initial.self-inside.first;
  key : l.self-inside.positions.key ≡ l.initial.self-inside.positions.key;
  positions : l.self-inside.positions ≡ l.initial.self-inside.positions;
  next : length l.self-inside.next.row ≡ length l.initial.self-inside.positions.kinds;
  wide : length l.self-inside.seen.row ≡ length l.initial.self-inside.positions.kinds;
  settles : Settles l.self-inside.settled l.self-inside.positions.places;
  none : (k : ℕ) → k < l.place → truth_at (Compare l.column Eq (Literal l.value)) (sees l.viewer (nth l.initial.self-inside.positions.places k)) ≡ false;
}
