use Rattle.hy_plan.proofs.OwnColumns.{restriction_within}
use Rattle.hy_plan.proofs.OneSet.{those_named, one_set}
use Rattle.hy_plan.proofs.OwnParts.{plan_of_its_tables}
use Rattle.hy_plan.proofs.laws.parts_are_of_their_tables.Goals as goal

pub returns-clause-restrictions : goal.returns-clause-restrictions
returns-clause-restrictions c = restriction_within

pub returns-clause-columns : goal.returns-clause-columns
returns-clause-columns c = those_named

pub returns-clause-one_set : goal.returns-clause-one_set
returns-clause-one_set c = one_set

pub returns-clause-parts : goal.returns-clause-parts
returns-clause-parts c = plan_of_its_tables
