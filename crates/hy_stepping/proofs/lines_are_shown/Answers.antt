use Rattle.hy_stepping.proofs.PushedShown.{lines_shown}
use Rattle.hy_stepping.proofs.PushedScripts.{lines_runnable, lines_typed}
use Rattle.hy_stepping.proofs.lines_are_shown.Goals as goal

pub returns-clause-shown : goal.returns-clause-shown
returns-clause-shown c = lines_shown c.lines_are_reached.ensures.lines c.reached_states_are_kept.ensures

pub returns-clause-typed : goal.returns-clause-typed
returns-clause-typed c = lines_typed

pub returns-clause-runnable : goal.returns-clause-runnable
returns-clause-runnable c = lines_runnable
