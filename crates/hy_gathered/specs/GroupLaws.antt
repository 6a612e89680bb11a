-- What is gathered for a SELECT with GROUP BY is enough for its reply and for its records.
use Rattle.std.specs.Prelude.{◌≡◌, ℕ, List, [], ◌∷◌, true, map, filter}
use Rattle.hy_value.specs.Columns.{has_column}
use Rattle.hy_bound.specs.declared.Aggregate.{Aggregate}
use Rattle.hy_bound.specs.declared.Shape.{Shape}
use Rattle.hy_bound.specs.declared.Bound.TheVariants.{Group}
use Rattle.hy_bound.specs.declared.Record.{Record}
use Rattle.hy_bound.specs.Condition.{Condition}
use Rattle.hy_bound.specs.Predicate.{truth_of}
use Rattle.hy_bound.specs.Projection.{projected}
use Rattle.hy_bound.specs.Records.{shape_of}
use Rattle.hy_bound.specs.Agreement.{FitTable}
use Rattle.hy_meaning.specs.Statement.{Table, Database, gathered_by, grouped}
use Rattle.hy_plan.specs.Reads.{records_of}
use Rattle.hy_plan.specs.declared.PlanPart.{PlanPart}
use Rattle.hy_gathered.specs.declared.group_plans.GroupPlan.{GroupPlan}
use Rattle.hy_gathered.specs.GroupPlans.{group_plan, groups_told}

-- what is gathered of a table for a part: of each row of which the part's condition is true, the values in the
-- part's columns
abbrev pub gathered_from : PlanPart → Table → Table
gathered_from part rows = map (projected part.columns) (filter (truth_of part.pred) rows)

-- what is told of what is gathered for the plan is the reply to the SELECT over its table
abbrev pub GatheredGroups : Type 0
GatheredGroups =
    (shape : Shape) (table : ℕ) (pred : Condition) (key : ℕ) (aggregate : Aggregate) (rows : Table) → FitTable shape rows
    → groups_told (group_plan shape table pred key aggregate) (gathered_from (group_plan shape table pred key aggregate).part rows)
    ≡ grouped pred key aggregate rows

-- the record of a plan, for a statement of this number
abbrev pub record_of : ℕ → GroupPlan → Record
record_of number plan = record { statement = number; table = plan.part.table; pred = plan.part.pred; columns = plan.recorded }

-- the SELECT logs the record of its plan and no other, whatever the rows are
abbrev pub GroupsAreRecorded : Type 0
GroupsAreRecorded =
    (shapes : List Shape) (number table : ℕ) (pred : Condition) (key : ℕ) (aggregate : Aggregate) (db : Database)
    → records_of shapes number (Group table pred key aggregate) (gathered_by (Group table pred key aggregate) db)
    ≡ record_of number (group_plan (shape_of shapes table) table pred key aggregate) ∷ []

-- the columns that are gathered are among those of the record
abbrev pub GatheredIsRecorded : Type 0
GatheredIsRecorded =
    (shape : Shape) (table : ℕ) (pred : Condition) (key : ℕ) (aggregate : Aggregate) (column : ℕ)
    → has_column (group_plan shape table pred key aggregate).part.columns column ≡ true
    → has_column (group_plan shape table pred key aggregate).recorded column ≡ true
