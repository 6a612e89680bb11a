use Rattle.hy_parse.proofs.Sentences.{sound, complete, one}
use Rattle.hy_parse.proofs.laws.sentences_are_read.Goals as goal

pub returns : goal.returns
returns c = record { sound = sound; complete = complete; one = one }
