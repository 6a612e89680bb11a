-- Neighbours of the laws of plans: parts without the columns of ON, and conditions without the rest.
use Rattle.std.specs.Prelude.{◌≡◌, ℕ, List, [], ◌∷◌, None}
use Rattle.std.specs.List.{list_all}
use Rattle.hy_value.specs.declared.Value.{Value}
use Rattle.hy_bound.specs.declared.Items.{Items}
use Rattle.hy_bound.specs.declared.Items.TheVariants.{Columns}
use Rattle.hy_bound.specs.declared.On.{On}
use Rattle.hy_bound.specs.declared.Shape.{Shape}
use Rattle.hy_bound.specs.Agreement.{FitTables}
use Rattle.hy_bound.specs.Condition.{Condition}
use Rattle.hy_bound.specs.Predicate.{truth_of}
use Rattle.hy_bound.specs.Records.{columns_shown, select_conditions}
use Rattle.hy_gathered.specs.Answers.{answered}
use Rattle.hy_laws.specs.Gathered.{gathered_of}
use Rattle.hy_meaning.specs.Statement.{Table, answer_of}
use Rattle.hy_plan.specs.Plans.{parts_from, plan_of, rest_of, spans_from}
use Rattle.hy_plan.specs.Rows.{FitRows, each_true, one_row}
use Rattle.hy_plan.specs.declared.Plan.{Plan}

-- the plan of a SELECT that takes of its tables only the columns which it shows
abbrev pub plan_of_what_is_shown : List Shape → List ℕ → List On → Condition → Items → Plan
plan_of_what_is_shown shapes tables ons pred items = record {
  parts = parts_from shapes (select_conditions ons pred) (columns_shown items) 0 None ons tables;
  rest = rest_of (spans_from shapes 0 tables) (select_conditions ons pred);
  items = items;
}

-- what is answered from what is gathered for that plan is the SELECT's answer over its tables
abbrev pub ShownColumnsAnswer : Type 0
ShownColumnsAnswer =
    (shapes : List Shape) (numbers : List ℕ) (ons : List On) (pred : Condition) (items : Items) (tables : List Table) → FitTables shapes numbers tables
    → answered (plan_of_what_is_shown shapes numbers ons pred items) (gathered_of (plan_of_what_is_shown shapes numbers ons pred items).parts tables)
    ≡ answer_of ons pred items tables

-- ON and WHERE are true of a joined row where each part's condition is true of that table's own row
abbrev pub RestrictionsSuffice : Type 0
RestrictionsSuffice =
    (shapes : List Shape) (tables : List ℕ) (ons : List On) (pred : Condition) (items : Items) (rows : List (List Value)) → FitRows shapes tables rows
    → list_all (λ condition. truth_of condition (one_row rows)) (select_conditions ons pred)
    ≡ each_true (plan_of shapes tables ons pred items).parts rows

-- two tables of one column each
abbrev pub two_tables : List Shape
two_tables = record { width = 1; key = None } ∷ record { width = 1; key = None } ∷ []

-- ON makes their columns equal
abbrev pub on_equal : List On
on_equal = record { left = 0; right = 1 } ∷ []

-- the first of them is shown
abbrev pub showing_first : Items
showing_first = Columns (0 ∷ [])
