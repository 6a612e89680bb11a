-- What an engine gathers that looks tables up by their key, said of each table for itself.
use Rattle.std.specs.Prelude.{◌≡◌, ℕ, List, [], ◌∷◌, ◌++◌, Some, length, slice_get, take}
use Rattle.hy_value.specs.declared.Value.{Value}
use Rattle.hy_meaning.specs.Statement.{Table}
use Rattle.hy_plan.specs.declared.PlanPart.{PlanPart}
use Rattle.hy_plan.specs.Reads.{columns_over}
use Rattle.hy_laws.specs.Lookups.{gathered_for, spread_of, looked_up}

-- the columns of the joined row that were gathered for these parts, one part's behind another's
abbrev pub columns_gathered : List PlanPart → List Table → List (List Value)
columns_gathered [] gathered = []
columns_gathered (part ∷ parts) [] = []
columns_gathered (part ∷ parts) (rows ∷ gathered) = columns_over part.width (spread_of part rows) ++ columns_gathered parts gathered

-- for each part that is gathered of its table which its look-up wants by the columns gathered for the parts before it
abbrev pub AreGatheredInTurn : List PlanPart → List Table → List Table → Type 0
AreGatheredInTurn parts tables gathered =
    (turn : ℕ) (part : PlanPart) (rows : Table) → slice_get parts turn ≡ Some part → slice_get tables turn ≡ Some rows
    → slice_get gathered turn ≡ Some (gathered_for part (columns_gathered (take turn parts) (take turn gathered)) rows)

-- what is looked up is gathered so
abbrev pub LookedUpInTurn : Type 0
LookedUpInTurn = (parts : List PlanPart) (tables : List Table) → AreGatheredInTurn parts tables (looked_up parts tables)

-- and nothing else is, table by table
abbrev pub LookedUpAlone : Type 0
LookedUpAlone =
    (parts : List PlanPart) (tables gathered : List Table) → length tables ≡ length parts → length gathered ≡ length parts
    → AreGatheredInTurn parts tables gathered → gathered ≡ looked_up parts tables
