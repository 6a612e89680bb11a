use Rattle.std.proofs.Common.{◌≡◌, length, take}
use Rattle.hy_chunk.specs.Views.{with_places}
use Rattle.hy_world.specs.Openings.{places_with}
use Rattle.hy_world.proofs.opening.load_rows.Given as goal

abbrev pub invariant-loop-place : goal.invariant-loop-place
invariant-loop-place l =
    l.chunk ≡ with_places l.fn.chunk (places_with l.fn.chunk.kinds (length l.fn.chunk.shown.places) (take l.place l.rows)) l.chunk.room
