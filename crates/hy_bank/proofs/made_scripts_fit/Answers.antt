use Rattle.hy_bank.proofs.Fitting.{made_fits}
use Rattle.hy_bank.proofs.made_scripts_fit.Goals as goal

pub returns : goal.returns
returns c = made_fits
