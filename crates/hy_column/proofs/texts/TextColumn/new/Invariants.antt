use Rattle.std.proofs.Common.{◌≡◌, [], Some, replicate}
use Rattle.hy_column.proofs.texts.TextColumn.new.Given as goal

-- so many empty texts so far
abbrev pub invariant-loop-place : goal.invariant-loop-place
invariant-loop-place l = l.values.items ≡ replicate l._place (Some [])
