-- Columns of the rows gathered for a part of a plan, and their sums.
use Rattle.std.specs.Prelude.{List, ℤ, map}
use Rattle.hy_value.specs.declared.Value.{Value}
use Rattle.hy_bound.specs.Predicate.{column_of}
use Rattle.hy_bound.specs.Projection.{spread}
use Rattle.hy_meaning.specs.Statement.{Table}
use Rattle.hy_meaning.specs.Totals.{sum_of}
use Rattle.hy_gathered.specs.declared.sums.PartColumn.{PartColumn}

-- the value in a column of a row, as a row of its table
abbrev pub value_in : PartColumn → List Value → Value
value_in column row = column_of (spread column.columns column.width row) column.column

-- the sum over rows
abbrev pub sum_by : PartColumn → Table → ℤ
sum_by column rows = sum_of column.column (map (spread column.columns column.width) rows)
