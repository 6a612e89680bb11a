use Rattle.hy_value.specs.declared.cells.Cell.TheVariants.{Null}
use Rattle.hy_value.proofs.CellValues.{within_push}
use Rattle.hy_value.proofs.row_buffer.RowBuffer.push_null_reserved.Goals as goal

pub invariant_of-self : goal.invariant_of-self
invariant_of-self c = rw c.push_reserved.ensures.items (within_push _ c.self.inside.cells.items Null tt c.self.invariant)
