use Rattle.std.proofs.Common.{◌≡◌, ◌++◌, drop}
use Rattle.hy_value.specs.Print.{BeginsWith}
use Rattle.hy_render.specs.Report.{table_lines}
use Rattle.hy_render.proofs.print_tables.Given as goal

-- what stands there and what is left give the whole, and what stood there first still does
abbrev pub invariant-loop-table : goal.invariant-loop-table
invariant-loop-table l = record { whole : l.out.items ++ table_lines l.names l.table (drop l.table l.tables) ≡ l.fn.out.items ++ table_lines l.names 0 l.tables; begun : BeginsWith l.fn.out.items l.out.items }
