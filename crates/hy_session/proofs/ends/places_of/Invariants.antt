use Rattle.std.proofs.Common.{◌≡◌, take, map}
use Rattle.hy_session.specs.Seeking.{written_place}
use Rattle.hy_session.proofs.ends.places_of.Given as goal

-- the positions so far
abbrev pub invariant-loop-place : goal.invariant-loop-place
invariant-loop-place l = l.places.items ≡ map written_place (take l.place-index l.noted)
