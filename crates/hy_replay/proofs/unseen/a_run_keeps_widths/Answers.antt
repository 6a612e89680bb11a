use Rattle.hy_replay.proofs.Runs.{runs_keep_widths}
use Rattle.hy_replay.proofs.unseen.a_run_keeps_widths.Goals as goal

pub returns : goal.returns
returns c = runs_keep_widths
