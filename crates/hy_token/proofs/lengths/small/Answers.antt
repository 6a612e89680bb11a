use Rattle.std.proofs.Common.{arith}
use Rattle.hy_token.proofs.WordBytes.{in_table}
use Rattle.hy_token.proofs.lengths.small.Goals as goal

pub returns : goal.returns
returns c = in_table c.args.byte (omega arith)
