use Rattle.hy_serving.proofs.Ends.{ends_within}
use Rattle.hy_serving.proofs.lines.parse.Goals as goal

pub returns-clause-within : goal.returns-clause-within
returns-clause-within c = ends_within c.args.line.now c.args.from c.parse_statement.result c.requires.in_range c.parsing_moves_on.ensures.statement c.parse_statement.ensures
