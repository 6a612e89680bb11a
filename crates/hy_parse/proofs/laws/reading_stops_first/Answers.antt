use Rattle.hy_parse.proofs.Sentences.{stops_first}
use Rattle.hy_parse.proofs.laws.reading_stops_first.Goals as goal

pub returns : goal.returns
returns c = stops_first
