use Rattle.hy_script.proofs.Lines.{moves}
use Rattle.hy_script.proofs.reading.parse.Goals as goal

pub returns-clause-moves : goal.returns-clause-moves
returns-clause-moves c = moves c.args.script.now c.args.first.span.start _ c.parse_into.result c.requires.in_range c.parsing_moves_on.ensures.statement c.parse_into.ensures
