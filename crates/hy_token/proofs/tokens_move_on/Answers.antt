use Rattle.hy_token.proofs.Progress.{token_at-Outcome}
use Rattle.hy_token.proofs.tokens_move_on.Goals as goal

pub returns : goal.returns
returns c = token_at-Outcome
