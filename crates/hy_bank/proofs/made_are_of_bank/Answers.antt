use Rattle.hy_bank.proofs.Members.{made_of_bank}
use Rattle.hy_bank.proofs.made_are_of_bank.Goals as goal

pub returns : goal.returns
returns c = made_of_bank
