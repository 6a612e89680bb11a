use Rattle.std.proofs.Common.{◌≡◌, vec_len}
use Rattle.hy_notes.specs.Spares.{AreSpare}
use Rattle.hy_notes.proofs.rows.blank_rows.Given as goal

-- so many buffers are spare
abbrev pub invariant-loop-row : goal.invariant-loop-row
invariant-loop-row l = record {
  spare : AreSpare l.width l.texts l.rows.items;
  count : vec_len l.rows ≡ l._row;
}
