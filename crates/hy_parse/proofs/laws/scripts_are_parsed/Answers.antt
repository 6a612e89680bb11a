use Rattle.hy_parse.proofs.Scripts.{statement_parses, faults_break}
use Rattle.hy_parse.proofs.laws.scripts_are_parsed.Goals as goal

pub returns : goal.returns
returns c = record { statement = statement_parses; fault = faults_break }
