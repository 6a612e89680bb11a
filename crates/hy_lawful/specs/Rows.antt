-- That a demand on the rows of each table is met by every row, where the first rows and the statements meet it; and that each
-- entry of the commit order stands on the tables before it.
use Rattle.std.specs.Prelude.{◌≡◌, ℕ, List, [], Bool, true, ◌≤◌, Some, IfSome, length, take, slice_get, slice_index_or}
use Rattle.std.specs.List.{All, AllByRecursion}
use Rattle.hy_value.specs.declared.Value.{Value}
use Rattle.hy_bound.specs.declared.Bound.{Bound}
use Rattle.hy_bound.specs.declared.Bound.TheVariants.{Select, Group, Insert, Update, Delete, Savepoint, RollbackTo, Release}
use Rattle.hy_bound.specs.declared.Txn.{Txn}
use Rattle.hy_bound.specs.Assignment.{assigned}
use Rattle.hy_machine.specs.declared.Setting.{Setting}
use Rattle.hy_machine.specs.States.{State, Open}
use Rattle.hy_machine.specs.Tables.{Entry, Pair, Cell, capacity}
use Rattle.hy_machine.specs.Writes.{blank_own, with_writes}
use Rattle.hy_machine.specs.Positions.{item_at}
use Rattle.hy_machine.specs.Sessions.{snapshot}
use Rattle.hy_machine.specs.Runs.{IsReached}
use Rattle.hy_machine.specs.Kept.{IsNow}

-- a demand on rows, by the number of their table
abbrev pub Demand : Type 1
Demand = ℕ → List Value → Type 0

-- the rows that a statement writes meet it: the row of an INSERT does, and so does what an UPDATE makes of a row that does
abbrev pub StatementMeets : Demand → Bound → Type 0
StatementMeets P (Select tables ons pred items) = Unit {0}
StatementMeets P (Group table pred key aggregate) = Unit {0}
StatementMeets P (Insert table row) = P table row
StatementMeets P (Update table sets pred) = (row : List Value) → P table row → IfSome (assigned sets row) (P table)
StatementMeets P (Delete table pred) = Unit {0}
StatementMeets P (Savepoint name) = Unit {0}
StatementMeets P (RollbackTo name) = Unit {0}
StatementMeets P (Release name) = Unit {0}

-- the first rows meet it, and so do the rows that the statements write
pub record SettingMeets (P : Demand) (setting : Setting) : Type 0 where
  pub first_rows : (table : ℕ) → AllByRecursion (P table) (slice_index_or setting.first table [])
  pub statements : All (λ (txns : List Txn). All (λ (txn : Txn). All (StatementMeets P) txn.statements) txns) setting.programs

-- every row meets it that is in the tables after any first entries of the commit order, or that an entry leaves, or that was own
-- to an open transaction when it had written so much
pub record RowsMeet (P : Demand) (setting : Setting) (state : State) : Type 0 where
  pub tables : (prefix table pos : ℕ) → IfSome (item_at (snapshot setting state prefix) table pos) (P table)
  pub entries : (rank : ℕ) (entry : Entry) → slice_get state.order rank ≡ Some entry → (table pos : ℕ) (pair : Pair)
      → item_at entry.cells table pos ≡ Some pair → IfSome pair.after (P table)
  pub opens : (number : ℕ) (current : Open) → IsNow state number current → (count table pos : ℕ) (cell : Cell)
      → item_at (with_writes (blank_own setting) (take count current.begun.trail)) table pos ≡ Some cell → IfSome cell (P table)

-- to pass a test is a demand
abbrev pub passes : (ℕ → List Value → Bool) → Demand
passes test table row = test table row ≡ true

-- so it is in every state that the machine comes to, whatever the test
abbrev pub ReachedRowsMeetDemands : Type 0
ReachedRowsMeetDemands = (test : ℕ → List Value → Bool) (setting : Setting) (state : State) → SettingMeets (passes test) setting → IsReached setting state
    → RowsMeet (passes test) setting state

-- an entry fits the tables that stand before it: it has no more tables and positions than there are, and what it says of a
-- position begins from the cell that stands there
pub record StandsOnTables (setting : Setting) (state : State) (rank : ℕ) (entry : Entry) : Type 0 where
  pub tables : length entry.cells ≤ length setting.first
  pub positions : AllByRecursion (λ items. length items ≤ capacity setting) entry.cells
  pub befores : (table pos : ℕ) (pair : Pair) → item_at entry.cells table pos ≡ Some pair
      → pair.before ≡ item_at (snapshot setting state rank) table pos

-- so does each entry of every state that the machine comes to
abbrev pub ReachedEntriesStand : Type 0
ReachedEntriesStand = (setting : Setting) (state : State) → IsReached setting state → (rank : ℕ) (entry : Entry)
    → slice_get state.order rank ≡ Some entry → StandsOnTables setting state rank entry
