use Rattle.hy_lines.proofs.Given.{whole_lines-first, all_lines-first, whole_lines-none, lines-last}
use Rattle.hy_lines.proofs.laws.lines_stand_first.Goals as goal

pub returns-clause-whole : goal.returns-clause-whole
returns-clause-whole c = whole_lines-first

pub returns-clause-all : goal.returns-clause-all
returns-clause-all c = all_lines-first

pub returns-clause-none : goal.returns-clause-none
returns-clause-none c = whole_lines-none

pub returns-clause-last : goal.returns-clause-last
returns-clause-last c = lines-last
