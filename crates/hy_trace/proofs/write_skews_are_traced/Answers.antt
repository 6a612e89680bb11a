use Rattle.hy_trace.proofs.Examples.{write_skew_traced}
use Rattle.hy_trace.proofs.write_skews_are_traced.Goals as goal

pub returns : goal.returns
returns c = write_skew_traced
