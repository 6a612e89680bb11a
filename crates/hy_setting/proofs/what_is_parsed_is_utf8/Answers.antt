use Rattle.hy_setting.proofs.StatementTexts.{parsed_utf8}
use Rattle.hy_setting.proofs.what_is_parsed_is_utf8.Goals as goal

pub returns : goal.returns
returns c = parsed_utf8 c.pieces_are_tokens.ensures c.scripts_are_parsed.ensures.statement
