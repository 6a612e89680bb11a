use Rattle.std.proofs.Common.{◌≡◌, take}
use Rattle.hy_column.proofs.RowLists.{made}
use Rattle.hy_column.proofs.columns.Columns.new.Given as goal

-- the columns of the types so far
abbrev pub invariant-loop-kind : goal.invariant-loop-kind
invariant-loop-kind l = l.columns.items ≡ made l.rows (take l.kind-index l.kinds)
