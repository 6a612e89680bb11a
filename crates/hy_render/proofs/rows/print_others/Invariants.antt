use Rattle.std.proofs.Common.{◌≡◌, ◌++◌, take, drop}
use Rattle.std.specs.List.{flat_map}
use Rattle.hy_value.specs.Print.{printed_next}
use Rattle.hy_render.proofs.rows.print_others.Given as goal

-- the values behind the first are printed so far
abbrev pub invariant-loop-before : goal.invariant-loop-before
invariant-loop-before l = l.out.items ≡ l.fn.out.items ++ flat_map printed_next (take l.before (drop 1 l.row))
