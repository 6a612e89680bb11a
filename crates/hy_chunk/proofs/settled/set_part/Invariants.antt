use Rattle.std.proofs.Common.{◌≡◌, length}
use Rattle.hy_chunk.specs.Settled.{AllSetIn}
use Rattle.hy_chunk.proofs.settled.set_part.Given as goal

abbrev pub invariant-loop-place : goal.invariant-loop-place
invariant-loop-place l = record {
  size : length l.mask ≡ length l.initial.mask;
  set : AllSetIn l.fn.part.first l.place l.mask;
}
