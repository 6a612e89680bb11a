-- How a SELECT with GROUP BY is run: what is gathered of its table, and what is told of that.
use Rattle.std.specs.Prelude.{ℕ, List, ◌∷◌, ◌++◌, Option, None, Some, map}
use Rattle.hy_bound.specs.declared.Aggregate.{Aggregate}
use Rattle.hy_bound.specs.declared.Shape.{Shape}
use Rattle.hy_bound.specs.declared.Bound.{Bound}
use Rattle.hy_bound.specs.declared.Bound.TheVariants.{Select, Group, Insert, Update, Delete, Savepoint, RollbackTo, Release}
use Rattle.hy_bound.specs.declared.Reply.{Reply}
use Rattle.hy_bound.specs.Condition.{Condition, True}
use Rattle.hy_bound.specs.Projection.{spread}
use Rattle.hy_bound.specs.Records.{columns_of, columns_summed, shape_of}
use Rattle.hy_meaning.specs.Statement.{Table, grouped}
use Rattle.hy_plan.specs.ColumnSets.{named_columns}
use Rattle.hy_plan.specs.declared.PlanPart.{PlanPart}
use Rattle.hy_gathered.specs.declared.group_plans.GroupPlan.{GroupPlan}

-- what is gathered of the table: of the rows of which WHERE is true, the grouped and the summed column
abbrev pub group_part : Shape → ℕ → Condition → ℕ → Aggregate → PlanPart
group_part shape table pred key aggregate = record {
  table = table;
  width = shape.width;
  pred = pred;
  columns = named_columns 0 shape.width (key ∷ columns_summed aggregate);
  lookup = None;
}

-- the plan of a SELECT with GROUP BY; its record has the columns of WHERE besides
abbrev pub group_plan : Shape → ℕ → Condition → ℕ → Aggregate → GroupPlan
group_plan shape table pred key aggregate = record {
  part = group_part shape table pred key aggregate;
  recorded = named_columns 0 shape.width (key ∷ columns_summed aggregate ++ columns_of pred);
  key = key;
  aggregate = aggregate;
}

-- the plan of a statement, if it is a SELECT with GROUP BY
abbrev pub group_plan_for : List Shape → Bound → Option GroupPlan
group_plan_for shapes (Select tables ons pred items) = None
group_plan_for shapes (Group table pred key aggregate) = Some (group_plan (shape_of shapes table) table pred key aggregate)
group_plan_for shapes (Insert table row) = None
group_plan_for shapes (Update table sets pred) = None
group_plan_for shapes (Delete table pred) = None
group_plan_for shapes (Savepoint name) = None
group_plan_for shapes (RollbackTo name) = None
group_plan_for shapes (Release name) = None

-- what is told of the rows that were gathered, as rows of their table: NULL in the other columns. WHERE is true of
-- each of them, so that nothing is left to ask
abbrev pub groups_told : GroupPlan → Table → Reply
groups_told plan gathered = grouped True plan.key plan.aggregate (map (spread plan.part.columns plan.part.width) gathered)
