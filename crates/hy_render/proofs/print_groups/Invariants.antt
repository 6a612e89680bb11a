use Rattle.std.proofs.Common.{◌≡◌, ◌++◌, take}
use Rattle.std.specs.List.{flat_map}
use Rattle.hy_render.specs.Report.{group_line}
use Rattle.hy_render.proofs.print_groups.Given as goal

-- what stands there is of those so far
abbrev pub invariant-loop-group : goal.invariant-loop-group
invariant-loop-group l = l.out.items ≡ l.fn.out.items ++ flat_map group_line (take l.group-index l.groups)
