use Rattle.std.proofs.Common.{◌≡◌, ◌++◌, drop}
use Rattle.std.specs.Option.{option_map}
use Rattle.hy_bind.specs.Statements.{numbers_of}
use Rattle.hy_bind.proofs.tables.numbers.Given as goal

-- the numbers so far and those of the tables that are left are all
abbrev pub invariant-loop-table : goal.invariant-loop-table
invariant-loop-table l = option_map (λ rest. l.numbers.items ++ rest) (numbers_of l.script l.catalog (drop l.table-index l.tables)) ≡ numbers_of l.script l.catalog l.tables
