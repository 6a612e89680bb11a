-- Groups of the rows gathered for a part of a plan.
use Rattle.std.specs.Prelude.{◌≡◌, List, Option, None, Some, ℤ, pos, length, map}
use Rattle.hy_value.specs.declared.Value.{Value}
use Rattle.hy_bound.specs.declared.Grouped.{Grouped}
use Rattle.hy_bound.specs.Projection.{spread}
use Rattle.hy_meaning.specs.Statement.{Table}
use Rattle.hy_meaning.specs.Totals.{added_of, groups_of}
use Rattle.hy_gathered.specs.Sums.{value_in}
use Rattle.hy_gathered.specs.Tally.{Tallied}
use Rattle.hy_gathered.specs.declared.sums.PartColumn.{PartColumn}
use Rattle.hy_gathered.specs.declared.tally.Grouping.{Grouping}

-- the groups of rows, as rows of their table
abbrev pub groups_by : Grouping → Table → List Grouped
groups_by grouping rows = groups_of grouping.key grouping.aggregate (map (spread grouping.columns grouping.width) rows)

-- what a row adds to the total of its group: its value in a column that is summed, or one
abbrev pub amount_in : Option PartColumn → List Value → ℤ
amount_in None row = pos 1
amount_in (Some column) row = added_of (value_in column row)

-- totals are those of these rows
abbrev pub IsTallyOf : Grouping → Table → Tallied → Type 0
IsTallyOf grouping rows tally = (tally.rows ≡ length rows) × (tally.groups ≡ groups_by grouping rows)
