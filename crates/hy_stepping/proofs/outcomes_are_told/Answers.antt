use Rattle.hy_stepping.proofs.OutcomesShown.{outcomes_are}
use Rattle.hy_stepping.proofs.outcomes_are_told.Goals as goal

pub returns : goal.returns
returns c = outcomes_are c.reached_states_are_kept.ensures c.entries_tell_changes.ensures
