use Rattle.std.proofs.Common.{◌≡◌, ◌++◌, drop}
use Rattle.hy_setting.specs.Kinds.{catalog_kinds}
use Rattle.hy_setting.proofs.all_kinds.Given as goal

-- the types of the tables so far, and of what is left
abbrev pub invariant-loop-table : goal.invariant-loop-table
invariant-loop-table l = l.all ++ catalog_kinds (drop l.table-index l.tables) ≡ catalog_kinds l.tables
