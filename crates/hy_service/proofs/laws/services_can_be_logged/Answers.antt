use Rattle.hy_service.proofs.Texts.{services_logged}
use Rattle.hy_service.proofs.laws.services_can_be_logged.Goals as goal

pub returns : goal.returns
returns c = services_logged c.services_are_sound.ensures c.what_is_parsed_is_utf8.ensures
