use Rattle.std.proofs.Common.{refl, arith}
use Rattle.hy_value.proofs.CellValues.{within_push_text, values_push_text}
use Rattle.hy_value.proofs.row_buffer.RowBuffer.push_text_reserved.Goals as goal

pub invariant_of-self : goal.invariant_of-self
invariant_of-self c = rw (c.push_reserved.ensures.items, c.push_reserved-2.ensures.items) (within_push_text _ _ _ c.len.result (omega arith) c.self.invariant)

pub returns : goal.returns
returns c =
    rw (
      c.push_reserved.ensures.items,
      c.push_reserved-2.ensures.items,
      c.push_reserved.ensures.capacity,
      c.push_reserved-2.ensures.capacity,
      c.push_reserved-2.ensures.len,
      ← c.self.view_is,
      values_push_text _ _ _ c.len.result (omega arith) c.self.invariant,
    ) refl
