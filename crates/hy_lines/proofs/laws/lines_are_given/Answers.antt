use Rattle.hy_lines.proofs.Given.{begins, goes_on, at_end, up_to_here, first_ones}
use Rattle.hy_lines.proofs.laws.lines_are_given.Goals as goal

pub returns-clause-begins : goal.returns-clause-begins
returns-clause-begins c = begins

pub returns-clause-goes_on : goal.returns-clause-goes_on
returns-clause-goes_on c = goes_on

pub returns-clause-end : goal.returns-clause-end
returns-clause-end c = at_end

pub returns-clause-whole : goal.returns-clause-whole
returns-clause-whole c = up_to_here

pub returns-clause-first : goal.returns-clause-first
returns-clause-first c = first_ones
