use Rattle.hy_setting.proofs.Tokens.{pieces_are}
use Rattle.hy_setting.proofs.pieces_are_tokens.Goals as goal

pub returns : goal.returns
returns c = pieces_are
