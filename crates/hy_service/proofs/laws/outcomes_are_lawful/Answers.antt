use Rattle.hy_service.proofs.Outcomes.{outcomes_are}
use Rattle.hy_service.proofs.laws.outcomes_are_lawful.Goals as goal

pub returns : goal.returns
returns c = outcomes_are c.services_are_sound.ensures c.runs_are_lawful.ensures.lawful c.runs_are_lawful.ensures.serial
