use Rattle.hy_lawful.proofs.EffectCounts.{inserts_count_positions}
use Rattle.hy_lawful.proofs.states.inserts_count_positions.Goals as goal

pub returns : goal.returns
returns c = inserts_count_positions
