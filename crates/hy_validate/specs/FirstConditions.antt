-- The first of the conditions that AND joins.
use Rattle.std.specs.Prelude.{slice_index_or}
use Rattle.hy_bound.specs.Condition.{Condition, True}
use Rattle.hy_bound.specs.Records.{conjuncts}

-- the first of the conditions that AND joins; where there are none it is no condition
abbrev pub first_condition_of : Condition → Condition
first_condition_of c = slice_index_or (conjuncts c) 0 True
