use Rattle.std.proofs.Common.{◌≡◌, ◌≤◌, [], length, drop, get_or}
use Rattle.std.proofs.Math.ListN.{set}
use Rattle.hy_column.specs.Cells.{texts_of}
use Rattle.hy_chunk.specs.Noting.{changes_noted}
use Rattle.hy_chunk.proofs.Over.{over}
use Rattle.hy_chunk.proofs.rows.exchange_row.Given as goal

-- the values so far are exchanged
abbrev pub invariant-loop-column : goal.invariant-loop-column
invariant-loop-column l = record {
  size : length l.row ≡ length l.initial.columns.kinds;
  kinds : l.columns.kinds ≡ l.initial.columns.kinds;
  rows : l.columns.rows ≡ set l.initial.columns.rows l.place (over l.column l.row (get_or l.initial.columns.rows l.place []));
  values : l.image.values ≡ over l.column (changes_noted (get_or l.initial.columns.rows l.place []) l.row l.initial.image.values) l.initial.image.values;
  live : l.image.live ≡ l.initial.image.live;
  free : texts_of (drop l.column l.initial.columns.kinds) ≤ l.spare.free;
  slots : l.spare.columns ≡ l.initial.spare.columns;
  places : l.spare.texts ≡ l.initial.spare.texts;
  count : l.spare.count ≡ l.initial.spare.count;
}
