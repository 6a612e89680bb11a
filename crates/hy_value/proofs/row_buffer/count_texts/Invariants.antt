use Rattle.std.proofs.Common.{◌≡◌, ◌≤◌, take}
use Rattle.hy_value.specs.Cells.{texts_in}
use Rattle.hy_value.proofs.row_buffer.count_texts.Given as goal

-- the texts so far are counted
abbrev pub invariant-loop-value : goal.invariant-loop-value
invariant-loop-value l = record {
  counted : l.count ≡ texts_in (take l.value-index l.values);
  below : l.count ≤ l.value-index;
}
