use Rattle.hy_bind.proofs.Fit.{fit}
use Rattle.hy_bind.proofs.laws.bound_statements_fit.Goals as goal

pub returns : goal.returns
returns c = fit
