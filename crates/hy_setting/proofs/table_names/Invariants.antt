use Rattle.std.proofs.Common.{◌≡◌, ◌++◌, map, drop}
use Rattle.hy_setting.proofs.table_names.Given as goal

-- the names so far, and those of what is left
abbrev pub invariant-loop-table : goal.invariant-loop-table
invariant-loop-table l = l.names ++ map (λ table. table.name) (drop l.table-index l.tables) ≡ map (λ table. table.name) l.tables
