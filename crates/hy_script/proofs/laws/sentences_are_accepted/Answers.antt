use Rattle.hy_script.proofs.Sentences.{accepted, accepts}
use Rattle.hy_script.proofs.laws.sentences_are_accepted.Goals as goal

pub returns : goal.returns
returns c = λ bytes options read. (accepted c.scripts_are_parsed.ensures.statement bytes options read, accepts c.scripts_are_parsed.ensures.statement bytes options read)
