use Rattle.hy_stepping.proofs.StepsShown.{steps_shown}
use Rattle.hy_stepping.proofs.visits_are_steps.Goals as goal

pub returns : goal.returns
returns c =
    steps_shown c.events_are_steps.ensures c.reached_states_are_kept.ensures c.reached_views_fit.ensures c.runs_are_reached.ensures
