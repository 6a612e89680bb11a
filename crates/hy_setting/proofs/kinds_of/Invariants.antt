use Rattle.std.proofs.Common.{◌≡◌, ◌++◌, map, drop}
use Rattle.hy_schema.specs.declared.Column.{Column}
use Rattle.hy_setting.proofs.kinds_of.Given as goal

-- the types so far, and those of what is left
abbrev pub invariant-loop-column : goal.invariant-loop-column
invariant-loop-column l = l.kinds ++ map (λ (column : Column). column.kind) (drop l.column-index l.columns) ≡ map (λ (column : Column). column.kind) l.columns
