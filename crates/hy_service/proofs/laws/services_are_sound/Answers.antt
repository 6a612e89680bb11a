use Rattle.hy_service.proofs.Hearings.{services_sound}
use Rattle.hy_service.proofs.laws.services_are_sound.Goals as goal

pub returns : goal.returns
returns c = services_sound c.openings_are_sound.ensures c.definitions_stay_sound.ensures c.taking_stays_sound.ensures
