use Rattle.hy_top.proofs.Texts.{reads_utf8}
use Rattle.hy_top.proofs.laws.what_is_read_is_utf8.Goals as goal

pub returns : goal.returns
returns c = reads_utf8 c.what_is_parsed_is_utf8.ensures c.sentences_are_accepted.ensures
