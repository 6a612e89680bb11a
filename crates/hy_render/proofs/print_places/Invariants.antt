use Rattle.std.proofs.Common.{◌≡◌, ◌++◌, take}
use Rattle.std.specs.List.{flat_map}
use Rattle.hy_render.specs.Report.{wrote_line}
use Rattle.hy_render.proofs.print_places.Given as goal

-- what stands there is of those so far
abbrev pub invariant-loop-place : goal.invariant-loop-place
invariant-loop-place l = l.out.items ≡ l.fn.out.items ++ flat_map (wrote_line l.names) (take l.place-index l.places)
