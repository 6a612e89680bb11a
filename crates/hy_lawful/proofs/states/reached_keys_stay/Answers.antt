use Rattle.hy_lawful.proofs.KeySteps.{reached_keys}
use Rattle.hy_lawful.proofs.states.reached_keys_stay.Goals as goal

pub returns : goal.returns
returns c = reached_keys
