use Rattle.std.proofs.Common.{◌≡◌, ◌++◌, drop}
use Rattle.hy_value.specs.Print.{BeginsWith}
use Rattle.hy_render.specs.Report.{placed_lines}
use Rattle.hy_render.proofs.print_placed.Given as goal

-- what stands there and what is left give the whole, and what stood there first still does
abbrev pub invariant-loop-table : goal.invariant-loop-table
invariant-loop-table l = record { whole : l.out.items ++ placed_lines l.names l.table (drop l.table l.counts) ≡ l.fn.out.items ++ placed_lines l.names 0 l.counts; begun : BeginsWith l.fn.out.items l.out.items }
