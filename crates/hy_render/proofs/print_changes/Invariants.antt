use Rattle.std.proofs.Common.{◌≡◌, ◌++◌, take}
use Rattle.std.specs.List.{flat_map}
use Rattle.hy_render.specs.Report.{change_line}
use Rattle.hy_render.proofs.print_changes.Given as goal

-- what stands there is of those so far
abbrev pub invariant-loop-change : goal.invariant-loop-change
invariant-loop-change l = l.out.items ≡ l.fn.out.items ++ flat_map (change_line l.names) (take l.change-index l.changes)
