use Rattle.hy_cases.proofs.Never.{never_given_outcomes}
use Rattle.hy_cases.proofs.lawful_outcomes_that_no_schedule_gives.Goals as goal

pub returns : goal.returns
returns c = never_given_outcomes
