use Rattle.std.proofs.Common.{◌≡◌}
use Rattle.hy_world.specs.Finished.{tables_back}
use Rattle.hy_world.proofs.finishing.all_rows.Given as goal

abbrev pub invariant-loop-table : goal.invariant-loop-table
invariant-loop-table l = record {
  tables : l.tables ≡ tables_back l.viewer l.fn.chunks.items l.shapes l.per_table l.table;
  kept : l.chunks.items ≡ l.fn.chunks.items;
}
