-- Neighbours of the laws of what is looked up, each of which says too much.
use Rattle.std.specs.Prelude.{◌≡◌, ℕ, List, [], ◌∷◌, Option, pos}
use Rattle.hy_value.specs.declared.Value.{Value}
use Rattle.hy_value.specs.declared.Value.TheVariants.{Int}
use Rattle.hy_bound.specs.declared.On.{On}
use Rattle.hy_bound.specs.declared.Items.{Items}
use Rattle.hy_bound.specs.declared.Shape.{Shape}
use Rattle.hy_bound.specs.Condition.{Condition}
use Rattle.hy_bound.specs.Agreement.{FitTables, HaveTheirKeys}
use Rattle.hy_meaning.specs.Statement.{Table, answer_of}
use Rattle.hy_plan.specs.Plans.{plan_of}
use Rattle.hy_plan.specs.Reads.{read_rows, select_reads_of}
use Rattle.hy_gathered.specs.Answers.{spread_all, answered}
use Rattle.hy_laws.specs.Gathered.{gathered_of}
use Rattle.hy_laws.specs.Lookups.{looked_up}

-- as much is looked up as is gathered by the restrictions alone
abbrev pub NothingIsLeftOut : Type 0
NothingIsLeftOut =
    (shapes : List Shape) (numbers : List ℕ) (ons : List On) (pred : Condition) (items : Items) (tables : List Table)
    → FitTables shapes numbers tables → HaveTheirKeys shapes numbers
    → looked_up (plan_of shapes numbers ons pred items).parts tables ≡ gathered_of (plan_of shapes numbers ons pred items).parts tables

-- what is looked up gives the answer, whether or not a table's key is one of its columns
abbrev pub AnyKeysSuffice : Type 0
AnyKeysSuffice =
    (shapes : List Shape) (numbers : List ℕ) (ons : List On) (pred : Condition) (items : Items) (tables : List Table)
    → FitTables shapes numbers tables
    → answered (plan_of shapes numbers ons pred items) (looked_up (plan_of shapes numbers ons pred items).parts tables) ≡ answer_of ons pred items tables

-- what is looked up is what is read, whether or not rows are as wide as their tables
abbrev pub AnyRowsSuffice : Type 0
AnyRowsSuffice =
    (shapes : List Shape) (numbers : List ℕ) (ons : List On) (pred : Condition) (items : Items) (tables : List Table)
    → spread_all (plan_of shapes numbers ons pred items).parts (looked_up (plan_of shapes numbers ons pred items).parts tables)
    ≡ read_rows (select_reads_of shapes numbers ons pred items tables) tables

-- The examples.

-- a table of one column with this key
abbrev pub shape_with : Option ℕ → Shape
shape_with key = record { width = 1; key = key }

-- a row of one number
abbrev pub row_of : ℕ → List Value
row_of number = Int (pos number) ∷ []

-- the first column of a joined row is equal to this one
abbrev pub equal_to : ℕ → On
equal_to column = record { left = 0; right = column }
