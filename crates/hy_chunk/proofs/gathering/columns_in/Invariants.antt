use Rattle.hy_chunk.proofs.Placing.{FoundColumns}
use Rattle.hy_chunk.proofs.gathering.columns_in.Given as goal

abbrev pub invariant-loop-column : goal.invariant-loop-column
invariant-loop-column l = FoundColumns l.columns l.width l.column l.found.items
