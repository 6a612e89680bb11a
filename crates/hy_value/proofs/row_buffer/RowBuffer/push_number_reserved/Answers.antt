use Rattle.hy_value.specs.declared.cells.Cell.TheVariants.{Int}
use Rattle.hy_value.proofs.CellValues.{within_push}
use Rattle.hy_value.proofs.row_buffer.RowBuffer.push_number_reserved.Goals as goal

pub invariant_of-self : goal.invariant_of-self
invariant_of-self c = rw c.push_reserved.ensures.items (within_push _ c.self.inside.cells.items (Int _) tt c.self.invariant)
