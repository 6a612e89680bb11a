use Rattle.std.proofs.Common.{◌≡◌, vec_len}
use Rattle.hy_notes.specs.Spares.{AreSpare}
use Rattle.hy_notes.proofs.rows.add_rows.Given as goal

-- there are so many buffers, all spare
abbrev pub invariant-loop-row : goal.invariant-loop-row
invariant-loop-row l = record {
  spare : AreSpare l.width l.texts l.spare.items;
  count : vec_len l.spare ≡ l._row;
}
