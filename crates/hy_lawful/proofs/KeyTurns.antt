-- The rows that a turn of an open transaction writes have the keys of the rows that stood at their positions at its start.
use Rattle.std.proofs.Common.{◌≡◌, ◌≢◌, ℕ, ◌-◌, ◌≤◌, List, None, Some, true, Ok, length, sym, ◌∙◌}
use Rattle.std.specs.List.{AllByRecursion}
use Rattle.std.proofs.lemmas.List.Elements.{recursion_from_All}
use Rattle.hy_value.specs.declared.Value.{Value}
use Rattle.hy_bound.specs.declared.Assign.{Assign}
use Rattle.hy_bound.specs.declared.Bound.{Bound}
use Rattle.hy_bound.specs.declared.Bound.TheVariants.{Select, Group, Insert, Update, Delete, Savepoint, RollbackTo, Release}
use Rattle.hy_bound.specs.declared.Ending.{Ending}
use Rattle.hy_bound.specs.declared.Ending.TheVariants.{RolledBack}
use Rattle.hy_bound.specs.declared.Txn.{Txn}
use Rattle.hy_bound.specs.declared.WriteKind.{WriteKind}
use Rattle.hy_bound.specs.declared.WriteKind.TheVariants as kind
use Rattle.hy_bound.specs.Condition.{Condition}
use Rattle.hy_bound.specs.Fits.{FitsStatement}
use Rattle.hy_bound.specs.Records.{shape_of}
use Rattle.hy_machine.specs.declared.Setting.{Setting}
use Rattle.hy_protocol.specs.declared.Phase.{Phase}
use Rattle.hy_protocol.specs.declared.Phase.TheVariants.{Working, Stamping, Undoing}
use Rattle.hy_protocol.specs.Turns.{Turn, Done, Waits, Begins, Visits, Answers, Saves, Enters, Ends}
use Rattle.hy_machine.specs.States.{State, Begun}
use Rattle.hy_machine.specs.Tables.{Tables, positions_in}
use Rattle.hy_machine.specs.Writes.{Write}
use Rattle.hy_machine.specs.Positions.{item_at}
use Rattle.hy_machine.specs.Saving.{taken_back}
use Rattle.hy_machine.specs.Sessions.{snapshot, view}
use Rattle.hy_machine.specs.Holding.{opponent, is_free}
use Rattle.hy_machine.specs.Visits.{verdict_at, swept, checks_of}
use Rattle.hy_machine.specs.Turns.{phase_turn}
use Rattle.hy_machine.specs.TurnCases.{WriteCases, StatementCases, UndoCases, statement_cases, undo_cases, stamp_cases, working_cases}
use Rattle.hy_lawful.proofs.Backs.{seen_then, backs_all}
use Rattle.hy_lawful.proofs.PassMays.{sweep_all, found_is, free_empty}
use Rattle.hy_lawful.proofs.ViewTurns.{present_statement}
use Rattle.hy_lawful.proofs.KeyRows.{KeepsKey, WritesKeep, KindSpares, verdict_keeps}

-- the rows that a turn of an open transaction writes keep their keys
abbrev pub TurnKeeps : Setting → Tables → Turn Write → Type 0
TurnKeeps setting start Done = Unit {0}
TurnKeeps setting start (Waits by) = Unit {0}
TurnKeeps setting start Begins = ⊥
TurnKeeps setting start (Visits writes phase) = WritesKeep setting start writes
TurnKeeps setting start (Answers writes reply took records) = WritesKeep setting start writes
TurnKeeps setting start (Saves statement reply) = Unit {0}
TurnKeeps setting start Enters = Unit {0}
TurnKeeps setting start (Ends ending) = Unit {0}

-- the tables of a transaction's start
abbrev start_of : Setting → State → Begun → Tables
start_of setting state begun = snapshot setting state begun.prefix

-- the rows that it sees keep their keys, and those that it saw at its savepoints
pub record SeesKeys (setting : Setting) (state : State) (begun : Begun) : Type 0 where
  pub low : begun.low ≤ begun.prefix
  pub now : (table pos : ℕ) → KeepsKey setting (snapshot setting state begun.prefix) table pos (item_at (view setting state begun) table pos)
  pub saved : (name : List ℕ) (table pos : ℕ)
      → KeepsKey setting (snapshot setting state begun.prefix) table pos (item_at (seen_then setting state begun name) table pos)

-- ---- statements

swept_keeps : (setting : Setting) (state : State) (number : ℕ) (begun : Begun) (kind : WriteKind) (pred : Condition) (table chunk : ℕ) (writes : List Write)
    → KindSpares setting table kind → SeesKeys setting state begun → swept setting state number begun kind pred table chunk ≡ Ok writes
    → WritesKeep setting (start_of setting state begun) writes
swept_keeps setting state number begun kind pred table chunk writes spares sees e =
    sweep_all (λ (write : Write). KeepsKey setting (start_of setting state begun) write.table write.pos write.cell) table
    (verdict_at setting state number begun kind pred table)
    (λ pos cell v. verdict_keeps setting (start_of setting state begun) kind pred table pos (opponent setting state number begun.prefix table pos)
    (item_at (view setting state begun) table pos) cell spares (sees.now table pos) v)
    (positions_in setting chunk) writes e

writes_keep : (setting : Setting) (state : State) (number : ℕ) (begun : Begun) (visited count : ℕ) (statement : Bound) (kind : WriteKind) (pred : Condition)
    (table : ℕ) → KindSpares setting table kind → SeesKeys setting state begun
    → WriteCases setting begun (TurnKeeps setting (start_of setting state begun)) visited count statement kind
    (swept setting state number begun kind pred table visited)
writes_keep setting state number begun visited count statement kind pred table spares sees = record {
  out = λ cause e. tt;
  goes = λ writes e few. swept_keeps setting state number begun kind pred table visited writes spares sees e;
  ends = λ writes e. swept_keeps setting state number begun kind pred table visited writes spares sees e;
}

backs_keep : (setting : Setting) (state : State) (begun : Begun) (name : List ℕ) (table chunk : ℕ) → SeesKeys setting state begun
    → WritesKeep setting (start_of setting state begun) (taken_back setting state begun name table chunk)
backs_keep setting state begun name table chunk sees =
    backs_all (λ (write : Write). KeepsKey setting (start_of setting state begun) write.table write.pos write.cell) setting state begun name table chunk
    (λ pos since. sees.saved name table pos)

-- a row comes where none stood
insert_keeps : (setting : Setting) (state : State) (begun : Begun) (table pos : ℕ) (row : List Value) → begun.low ≤ begun.prefix
    → is_free setting state begun table pos ≡ true → KeepsKey setting (start_of setting state begun) table pos (Some row)
insert_keeps setting state begun table pos row low free old new stood is =
    absurd (let never : None ≡ Some old = sym (free_empty setting state begun table pos free begun.prefix low) ∙ stood in cc)

statement_keeps : (setting : Setting) (state : State) (number : ℕ) (begun : Begun) (visited count : ℕ) (statement : Bound)
    → FitsStatement setting.shapes statement → SeesKeys setting state begun
    → StatementCases setting state number begun (TurnKeeps setting (start_of setting state begun)) visited count statement
statement_keeps setting state number begun visited count (Select tables ons pred items) fits sees = record { goes = λ few. tt; ends = tt }
statement_keeps setting state number begun visited count (Group table pred key aggregate) fits sees = record { goes = λ few. tt; ends = tt }
statement_keeps setting state number begun visited count (Insert table row) fits sees =
    let chunk : ℕ = visited - checks_of setting (shape_of setting.shapes table).key in record {
      checked = λ few. tt;
      twice = tt;
      takes = λ pos e.
          (insert_keeps setting state begun table pos row sees.low (found_is (is_free setting state begun table) (positions_in setting chunk) pos e), tt);
      goes = λ past e few. tt;
      full = λ past e most. tt;
    }
statement_keeps setting state number begun visited count (Update table sets pred) fits sees =
    writes_keep setting state number begun visited count (Update table sets pred) (kind.Set sets) pred table
    (recursion_from_All (λ (assign : Assign). (shape_of setting.shapes table).key ≢ Some assign.column) sets fits.1.spares_key) sees
statement_keeps setting state number begun visited count (Delete table pred) fits sees =
    writes_keep setting state number begun visited count (Delete table pred) kind.Delete pred table tt sees
statement_keeps setting state number begun visited count (Savepoint name) fits sees = record { waits = λ by is. tt; saves = λ free. tt }
statement_keeps setting state number begun visited count (RollbackTo name) fits sees = record {
  goes = λ chunk e. backs_keep setting state begun name chunk.0 chunk.1 sees;
  ends = λ none. record { waits = λ by is. tt; saves = λ free. tt };
}
statement_keeps setting state number begun visited count (Release name) fits sees = record { waits = λ by is. tt; saves = λ free. tt }

undo_keeps : (setting : Setting) (state : State) (number : ℕ) (begun : Begun) (visited : ℕ) (cause : Ending)
    → UndoCases setting state number begun (TurnKeeps setting (start_of setting state begun)) visited cause
undo_keeps setting state number begun visited cause = record { goes = λ few. tt; waits = λ by is. tt; ends = λ free. tt }

-- the turn of an open transaction whose statements fit
pub phase_keeps : (setting : Setting) (state : State) (number : ℕ) (txn : Txn) (begun : Begun) (phase : Phase)
    → AllByRecursion (FitsStatement setting.shapes) txn.statements → SeesKeys setting state begun
    → TurnKeeps setting (start_of setting state begun) (phase_turn setting state number txn begun phase)
phase_keeps setting state number txn begun (Working visited count) fits sees =
    working_cases setting state number begun (TurnKeeps setting (start_of setting state begun)) txn visited count
    (λ statement e. statement_cases setting state number begun (TurnKeeps setting (start_of setting state begun)) visited count statement
    (statement_keeps setting state number begun visited count statement
    (present_statement (FitsStatement setting.shapes) txn.statements (length begun.replies) statement fits e) sees))
    (λ none commits. record { waits = λ by is. tt; reads = λ free nothing. tt; enters = λ free some e. tt; out = λ some cause e. tt })
    (λ none rolls. undo_keeps setting state number begun 0 RolledBack)
phase_keeps setting state number txn begun (Stamping visited) fits sees =
    stamp_cases setting state number begun (TurnKeeps setting (start_of setting state begun)) visited (λ few. tt) tt
phase_keeps setting state number txn begun (Undoing visited cause) fits sees =
    undo_cases setting state number begun (TurnKeeps setting (start_of setting state begun)) visited cause
    (undo_keeps setting state number begun visited cause)
