use Rattle.hy_bound.specs.Truths.{sense_alike, value_alike}
use Rattle.hy_bound.specs.Truths.{set_alike}
use Rattle.hy_bound.proofs.laws.only_named_columns_matter.Goals as goal

pub returns-clause-conditions : goal.returns-clause-conditions
returns-clause-conditions c = sense_alike

pub returns-clause-expressions : goal.returns-clause-expressions
returns-clause-expressions c = value_alike

pub returns-clause-ranges : goal.returns-clause-ranges
returns-clause-ranges c = set_alike
