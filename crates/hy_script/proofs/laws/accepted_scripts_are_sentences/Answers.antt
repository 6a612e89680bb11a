use Rattle.hy_script.proofs.Sentences.{spells_sentence, no_sentence, spelled_once}
use Rattle.hy_script.proofs.laws.accepted_scripts_are_sentences.Goals as goal

pub returns : goal.returns
returns c = record {
  accepted = spells_sentence c.scripts_are_parsed.ensures.statement;
  refused = no_sentence c.scripts_are_parsed.ensures.statement;
  one = λ bytes one other. spelled_once c.scripts_are_parsed.ensures.statement bytes 0 one other;
}
