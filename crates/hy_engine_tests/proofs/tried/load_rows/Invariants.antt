use Rattle.std.proofs.Common.{◌≡◌, length}
use Rattle.hy_engine_tests.specs.Ready.{AreUnused, IsReady}
use Rattle.hy_engine_tests.proofs.tried.load_rows.Given as goal

-- the positions so far have their rows, and the others are unused
abbrev pub invariant-loop-place : goal.invariant-loop-place
invariant-loop-place l = record {
  ready : IsReady 1 l.chunk;
  many : length l.chunk.shown.places ≡ length l.fn.chunk.shown.places;
  unused : AreUnused l.place l.chunk.shown.places;
}
