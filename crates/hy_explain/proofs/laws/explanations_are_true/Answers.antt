use Rattle.hy_explain.proofs.Telling.{explanations_true}
use Rattle.hy_explain.proofs.laws.explanations_are_true.Goals as goal

pub returns : goal.returns
returns c = explanations_true
