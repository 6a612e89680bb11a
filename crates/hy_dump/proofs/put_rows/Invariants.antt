use Rattle.std.proofs.Common.{◌≡◌, ◌++◌, take}
use Rattle.std.specs.List.{flat_map}
use Rattle.hy_dump.specs.Dump.{insert_line}
use Rattle.hy_dump.proofs.put_rows.Given as goal

-- what stands there is of those so far
abbrev pub invariant-loop-row : goal.invariant-loop-row
invariant-loop-row l = l.out.items ≡ l.fn.out.items ++ flat_map (insert_line l.table.name) (take l.row-index l.rows)
