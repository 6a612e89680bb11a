use Rattle.hy_cases.proofs.Refusals.{wrong_conflicts, wrong_invalids, wrong_refusals}
use Rattle.hy_cases.proofs.wrong_refusals_are_refused.Goals as goal

pub returns-clause-conflicts : goal.returns-clause-conflicts
returns-clause-conflicts c = wrong_conflicts

pub returns-clause-invalids : goal.returns-clause-invalids
returns-clause-invalids c = wrong_invalids

pub returns-clause-others : goal.returns-clause-others
returns-clause-others c = wrong_refusals
