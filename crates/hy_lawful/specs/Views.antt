-- That what an open transaction sees fits its tables: the rows have the tables' columns.
use Rattle.std.specs.Prelude.{ℕ, List, map, take}
use Rattle.std.specs.List.{All, AllZip}
use Rattle.hy_value.specs.declared.Value.{Value}
use Rattle.hy_bound.specs.declared.Shape.{Shape}
use Rattle.hy_bound.specs.declared.Txn.{Txn}
use Rattle.hy_bound.specs.Agreement.{FitTable, FitTables, HaveTheirKeys, HaveWidth}
use Rattle.hy_bound.specs.Fits.{FitsShape, FitsStatement}
use Rattle.hy_bound.specs.Records.{shape_of}
use Rattle.hy_machine.specs.declared.Setting.{Setting}
use Rattle.hy_machine.specs.States.{State, Open}
use Rattle.hy_machine.specs.Tables.{Tables, over}
use Rattle.hy_machine.specs.Writes.{blank_own, with_writes}
use Rattle.hy_machine.specs.Sessions.{snapshot, view}
use Rattle.hy_machine.specs.Turns.{rows_seen}
use Rattle.hy_machine.specs.Runs.{IsReached}
use Rattle.hy_machine.specs.Kept.{IsNow, KeysStay}

-- what is run fits its tables: each has first rows of its columns, and the statements are theirs
pub record TablesAreFitted (setting : Setting) : Type 0 where
  pub shapes : All FitsShape setting.shapes
  pub first_rows : AllZip (λ (shape : Shape) (rows : List (List Value)). HaveWidth shape.width rows) setting.shapes setting.first
  pub statements : All (λ (txns : List Txn). All (λ (txn : Txn). All (FitsStatement setting.shapes) txn.statements) txns) setting.programs

-- what is seen fits: the rows of one table, and those of the tables that a SELECT joins, whose keys are columns
pub record SeenFits (setting : Setting) (seen : Tables) : Type 0 where
  pub one : (table : ℕ) → FitTable (shape_of setting.shapes table) (rows_seen seen table)
  pub joined : (tables : List ℕ) → FitTables setting.shapes tables (map (rows_seen seen) tables)
  pub keys : (tables : List ℕ) → HaveTheirKeys setting.shapes tables

-- so it is for what every open transaction sees, of any tables: one that isn't there has no columns and no rows
abbrev pub ReachedViewsFit : Type 0
ReachedViewsFit = (setting : Setting) (state : State) → TablesAreFitted setting → IsReached setting state
    → (number : ℕ) (current : Open) → IsNow state number current → SeenFits setting (view setting state current.begun)

-- and for what it saw when it had written so much
abbrev pub ReachedSeenFit : Type 0
ReachedSeenFit = (setting : Setting) (state : State) → TablesAreFitted setting → IsReached setting state
    → (number : ℕ) (current : Open) → IsNow state number current → (count : ℕ)
    → SeenFits setting (over (snapshot setting state current.begun.prefix) (with_writes (blank_own setting) (take count current.begun.trail)))

-- and for the tables after the first entries of the commit order, or after all
abbrev pub ReachedTablesFit : Type 0
ReachedTablesFit = (setting : Setting) (state : State) → TablesAreFitted setting → IsReached setting state
    → (prefix : ℕ) → SeenFits setting (snapshot setting state prefix)

-- and the rows that an open transaction has written have the keys of the rows that stood there at its start
abbrev pub ReachedKeysStay : Type 0
ReachedKeysStay = (setting : Setting) (state : State) → TablesAreFitted setting → IsReached setting state → KeysStay setting state
