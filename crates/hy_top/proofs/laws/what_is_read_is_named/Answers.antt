use Rattle.hy_top.proofs.NamedScripts.{reads_named}
use Rattle.hy_top.proofs.laws.what_is_read_is_named.Goals as goal

pub returns : goal.returns
returns c = reads_named c.pieces_are_tokens.ensures c.scripts_are_parsed.ensures.statement c.sentences_are_accepted.ensures
