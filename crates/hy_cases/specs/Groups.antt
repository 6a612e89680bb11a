-- Neighbours of the laws of GROUP BY: a part without the summed column, a record without the columns of WHERE.
use Rattle.std.specs.Prelude.{◌≡◌, ℕ, List, [], ◌∷◌, None, Some}
use Rattle.hy_value.specs.declared.Cmp.TheVariants.{Eq}
use Rattle.hy_bound.specs.declared.predicate.Side.TheVariants.{Literal}
use Rattle.hy_bound.specs.declared.Aggregate.{Aggregate}
use Rattle.hy_bound.specs.declared.Bound.TheVariants.{Group}
use Rattle.hy_bound.specs.declared.Record.{Record}
use Rattle.hy_bound.specs.declared.Shape.{Shape}
use Rattle.hy_bound.specs.Agreement.{FitTable}
use Rattle.hy_bound.specs.Changes.{Change, Miss, FitChanges}
use Rattle.hy_bound.specs.Condition.{Condition, Compare}
use Rattle.hy_bound.specs.Records.{shape_of}
use Rattle.hy_gathered.specs.declared.group_plans.GroupPlan.{GroupPlan}
use Rattle.hy_gathered.specs.GroupPlans.{group_part, group_plan, groups_told}
use Rattle.hy_gathered.specs.GroupLaws.{gathered_from}
use Rattle.hy_meaning.specs.Statement.{Table, grouped}
use Rattle.hy_plan.specs.ColumnSets.{named_columns}
use Rattle.hy_cases.specs.Examples.{number, only}
use Rattle.hy_cases.specs.Unseen.{RepliesTheSame}

-- the plan of a SELECT with GROUP BY that takes of its table the grouped column alone
abbrev pub plan_of_grouped : Shape → ℕ → Condition → ℕ → Aggregate → GroupPlan
plan_of_grouped shape table pred key aggregate = record {
  part = record { table = table; width = shape.width; pred = pred; columns = named_columns 0 shape.width (key ∷ []); lookup = None };
  recorded = (group_plan shape table pred key aggregate).recorded;
  key = key;
  aggregate = aggregate;
}

-- what is told of what is gathered for that plan is the reply to the SELECT over its table
abbrev pub GroupedColumnSuffices : Type 0
GroupedColumnSuffices =
    (shape : Shape) (table : ℕ) (pred : Condition) (key : ℕ) (aggregate : Aggregate) (rows : Table) → FitTable shape rows
    → groups_told (plan_of_grouped shape table pred key aggregate) (gathered_from (plan_of_grouped shape table pred key aggregate).part rows)
    ≡ grouped pred key aggregate rows

-- the record of a SELECT with GROUP BY that has only the columns which are gathered
abbrev pub of_what_is_gathered : Shape → ℕ → ℕ → Condition → ℕ → Aggregate → Record
of_what_is_gathered shape number table pred key aggregate =
    record { statement = number; table = table; pred = pred; columns = (group_part shape table pred key aggregate).columns }

-- the reply to a SELECT with GROUP BY stays where changes don't hit this record
abbrev pub GatheredColumnsSuffice : Type 0
GatheredColumnsSuffice =
    (shapes : List Shape) (number table : ℕ) (pred : Condition) (key : ℕ) (aggregate : Aggregate) (changes : List (List Change)) → FitChanges shapes changes
    → Miss (of_what_is_gathered (shape_of shapes table) number table pred key aggregate ∷ []) changes
    → RepliesTheSame shapes (Group table pred key aggregate) changes

-- one table of two columns
abbrev pub pairs : List Shape
pairs = record { width = 2; key = None } ∷ []

-- that the second column is 1
abbrev pub second_is_one : Condition
second_is_one = Compare 1 Eq (Literal (number 1))

-- a row leaves those that have 1 in their second column
abbrev pub leaving_second : List (List Change)
leaving_second = only (Some (number 1 ∷ number 1 ∷ [])) (Some (number 1 ∷ number 2 ∷ []))
