use Rattle.std.proofs.Common.{◌≡◌, ◌++◌, drop}
use Rattle.hy_value.specs.Print.{BeginsWith}
use Rattle.hy_render.specs.Report.{order_lines}
use Rattle.hy_render.proofs.print_order.Given as goal

-- what stands there and what is left give the whole, and what stood there first still does
abbrev pub invariant-loop-place : goal.invariant-loop-place
invariant-loop-place l = record { whole : l.out.items ++ order_lines l.names l.place (drop l.place l.order) ≡ l.fn.out.items ++ order_lines l.names 0 l.order; begun : BeginsWith l.fn.out.items l.out.items }
