use Rattle.hy_chunk.proofs.Gathers.{by_one, by_any}
use Rattle.hy_chunk.proofs.gathering.conditions_gather_rows.Goals as goal

pub returns : goal.returns
returns c = record { one = by_one; read = by_any }
