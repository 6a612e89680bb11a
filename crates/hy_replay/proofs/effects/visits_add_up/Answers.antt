use Rattle.hy_replay.proofs.EffectVisits.{visits_add_up, chunks_add_up, changes_by_chunks}
use Rattle.hy_replay.proofs.effects.visits_add_up.Goals as goal

pub returns-clause-parts : goal.returns-clause-parts
returns-clause-parts c = visits_add_up

pub returns-clause-chunks : goal.returns-clause-chunks
returns-clause-chunks c = chunks_add_up

pub returns-clause-statements : goal.returns-clause-statements
returns-clause-statements c = changes_by_chunks
