use Rattle.hy_replay.proofs.EffectOwn.{runs_leave_own}
use Rattle.hy_replay.proofs.effects.a_run_leaves_own_writes.Goals as goal

pub returns : goal.returns
returns c = runs_leave_own
