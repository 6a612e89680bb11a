use Rattle.std.proofs.Common.{◌≡◌, ◌++◌, map}
use Rattle.std.specs.Iterator.Adapters.{zip_first, zip_second}
use Rattle.std.specs.Slice.Iter.{iter_rest}
use Rattle.hy_machine.specs.Tables.{laid_out}
use Rattle.hy_recovery.specs.Recovered.{held_tables}
use Rattle.hy_recovery.proofs.tables_of.Given as goal

-- the tables so far, and those of what is left
abbrev pub invariant-loop-columns : goal.invariant-loop-columns
invariant-loop-columns l =
    l.tables ++ held_tables (iter_rest (zip_first l.columns-iterator)) (map (laid_out l.positions) (iter_rest (zip_second l.columns-iterator)))
    ≡ held_tables l.kinds (map (laid_out l.positions) l.setting.first)
