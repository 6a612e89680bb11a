use Rattle.hy_bank.proofs.Audits.{audits_tell}
use Rattle.hy_bank.proofs.audits_agree.Goals as goal

pub returns : goal.returns
returns c = audits_tell
