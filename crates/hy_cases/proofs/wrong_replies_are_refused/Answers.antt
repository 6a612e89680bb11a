use Rattle.hy_cases.proofs.Replies.{wrong_replies}
use Rattle.hy_cases.proofs.wrong_replies_are_refused.Goals as goal

pub returns : goal.returns
returns c = wrong_replies
