use Rattle.hy_script.proofs.KeptBound.{reads_bound}
use Rattle.hy_script.proofs.fitting.what_is_read_is_bound.Goals as goal

pub returns : goal.returns
returns c = reads_bound c.scripts_are_parsed.ensures.statement
