-- What an engine that looks tables up by their key gathers for a plan, and that it is enough.
use Rattle.std.specs.Prelude.{◌≡◌, ℕ, List, [], ◌∷◌, ◌++◌, Bool, true, ◌&&◌, nat_le, if◌then◌else◌, Option, None, Some, length, slice_index_or, map, filter}
use Rattle.hy_value.specs.declared.Value.{Value}
use Rattle.hy_value.specs.Sorted.{is_one_of}
use Rattle.hy_bound.specs.declared.On.{On}
use Rattle.hy_bound.specs.declared.Items.{Items}
use Rattle.hy_bound.specs.declared.Shape.{Shape}
use Rattle.hy_bound.specs.declared.Bound.TheVariants.{Select}
use Rattle.hy_bound.specs.Condition.{Condition}
use Rattle.hy_bound.specs.Predicate.{column_of, truth_of}
use Rattle.hy_bound.specs.Projection.{projected, spread}
use Rattle.hy_bound.specs.Agreement.{FitTables, HaveTheirKeys}
use Rattle.hy_meaning.specs.Statement.{Table, answer_of}
use Rattle.hy_plan.specs.declared.Lookup.{Lookup}
use Rattle.hy_plan.specs.declared.PlanPart.{PlanPart}
use Rattle.hy_plan.specs.Plans.{plan_of}
use Rattle.hy_plan.specs.Reads.{known_values_of, most_keys, columns_over, read_rows, select_reads_of, records_of}
use Rattle.hy_gathered.specs.Answers.{spread_all, answered}

-- the keys that a look-up wants: the different values other than NULL that were gathered of its source column, `earlier`
-- having the columns of the joined row that were gathered so far
abbrev pub wanted_keys : Lookup → List (List Value) → List Value
wanted_keys lookup earlier = known_values_of (slice_index_or earlier lookup.source [])

-- a row has one of the keys that are wanted; where these are many, any key will do
abbrev pub has_wanted_key : List Value → ℕ → List Value → Bool
has_wanted_key keys key row = if nat_le (length keys) most_keys then is_one_of keys (column_of row key) else true

-- a row is wanted by a look-up; without one every row is
abbrev pub is_wanted : Option Lookup → List (List Value) → List Value → Bool
is_wanted None earlier row = true
is_wanted (Some lookup) earlier row = has_wanted_key (wanted_keys lookup earlier) lookup.key row

-- a row is gathered for a part where the part's condition is true of it and the part's look-up wants it
abbrev pub is_gathered : PlanPart → List (List Value) → List Value → Bool
is_gathered part earlier row = truth_of part.pred row && is_wanted part.lookup earlier row

-- what is gathered of a table for a part: of each such row the values in the part's columns
abbrev pub gathered_for : PlanPart → List (List Value) → Table → Table
gathered_for part earlier rows = map (projected part.columns) (filter (is_gathered part earlier) rows)

-- what was gathered for a part, as rows of its table: NULL in the other columns
abbrev pub spread_of : PlanPart → Table → Table
spread_of part gathered = map (spread part.columns part.width) gathered

-- what is gathered of tables for the parts of a plan, one after another, where these columns of the joined row were
-- gathered before: those that are gathered for a part stand behind them, and are known to the parts that follow
abbrev pub looked_up_behind : List (List Value) → List PlanPart → List Table → List Table
looked_up_behind earlier [] tables = []
looked_up_behind earlier (part ∷ parts) [] = []
looked_up_behind earlier (part ∷ parts) (rows ∷ tables) =
    gathered_for part earlier rows ∷ looked_up_behind (earlier ++ columns_over part.width (spread_of part (gathered_for part earlier rows))) parts tables

-- what is gathered of tables for the parts of a plan; before the first one nothing was
abbrev pub looked_up : List PlanPart → List Table → List Table
looked_up parts tables = looked_up_behind [] parts tables

-- what is looked up for a SELECT's plan is what the SELECT reads of its tables, once it is put back into rows of these
abbrev pub LookedUpIsRead : Type 0
LookedUpIsRead =
    (shapes : List Shape) (numbers : List ℕ) (ons : List On) (pred : Condition) (items : Items) (tables : List Table) → FitTables shapes numbers tables
    → spread_all (plan_of shapes numbers ons pred items).parts (looked_up (plan_of shapes numbers ons pred items).parts tables)
    ≡ read_rows (select_reads_of shapes numbers ons pred items tables) tables

-- what is answered from it is the SELECT's answer over its tables
abbrev pub LookedUpAnswers : Type 0
LookedUpAnswers =
    (shapes : List Shape) (numbers : List ℕ) (ons : List On) (pred : Condition) (items : Items) (tables : List Table)
    → FitTables shapes numbers tables → HaveTheirKeys shapes numbers
    → answered (plan_of shapes numbers ons pred items) (looked_up (plan_of shapes numbers ons pred items).parts tables) ≡ answer_of ons pred items tables

-- and the records that the SELECT logs over it are those that it logs over its tables
abbrev pub LookedUpLogsTheSame : Type 0
LookedUpLogsTheSame =
    (shapes : List Shape) (number : ℕ) (numbers : List ℕ) (ons : List On) (pred : Condition) (items : Items) (tables : List Table)
    → FitTables shapes numbers tables
    → records_of shapes number (Select numbers ons pred items)
    (spread_all (plan_of shapes numbers ons pred items).parts (looked_up (plan_of shapes numbers ons pred items).parts tables))
    ≡ records_of shapes number (Select numbers ons pred items) tables
