use Rattle.hy_measured.proofs.Fits.{sets_fit}
use Rattle.hy_measured.proofs.ready.set_bal.Goals as goal

pub returns : goal.returns
returns c = sets_fit _ c.in_ok-literal.field-0 c.new-sets.result c.push.new.self c.in_ok-literal.ensures c.new-sets.ensures c.in_ok-push.ensures.ok
