-- The rows that a turn of an open transaction writes meet a demand, where the rows that the statements write do.
use Rattle.std.proofs.Common.{ℕ, zero, suc, List, [], ◌∷◌, Option, None, Some, Result, Ok, Err, length}
use Rattle.std.proofs.Common.{◌≡◌, inl, inr, subst}
use Rattle.std.proofs.lemmas.Option.{same_Some}
use Rattle.std.specs.Prelude.{slice_get, IfSome, IfOk}
use Rattle.std.specs.List.{AllByRecursion}
use Rattle.std.specs.Option.{option_map}
use Rattle.std.proofs.lemmas.Bool.{cases_Bool}
use Rattle.hy_value.specs.declared.Value.{Value}
use Rattle.hy_bound.specs.declared.Txn.{Txn}
use Rattle.hy_bound.specs.declared.Bound.{Bound}
use Rattle.hy_bound.specs.declared.Bound.TheVariants.{Select, Group, Insert, Update, Delete, Savepoint, RollbackTo, Release}
use Rattle.hy_bound.specs.declared.WriteKind.{WriteKind}
use Rattle.hy_bound.specs.declared.WriteKind.TheVariants as kind
use Rattle.hy_bound.specs.Assignment.{assigned}
use Rattle.hy_bound.specs.Condition.{Condition}
use Rattle.hy_bound.specs.Predicate.{truth_of}
use Rattle.hy_stamp.specs.declared.Label.{Label}
use Rattle.hy_bound.specs.declared.Ending.{Ending}
use Rattle.hy_bound.specs.declared.Ending.TheVariants.{RolledBack}
use Rattle.hy_machine.specs.declared.Setting.{Setting}
use Rattle.hy_protocol.specs.declared.Phase.{Phase}
use Rattle.hy_protocol.specs.declared.Phase.TheVariants.{Working, Stamping, Undoing}
use Rattle.hy_machine.specs.States.{State, Begun}
use Rattle.hy_machine.specs.Writes.{Write}
use Rattle.hy_protocol.specs.Turns.{Turn, Done, Waits, Begins, Visits, Answers, Saves, Enters, Ends}
use Rattle.hy_machine.specs.Tables.{Cell, positions_in}
use Rattle.hy_machine.specs.Holding.{opponent}
use Rattle.hy_machine.specs.Positions.{item_at}
use Rattle.hy_machine.specs.Saving.{taken_back}
use Rattle.hy_machine.specs.Sessions.{view}
use Rattle.hy_machine.specs.Visits.{new_cell, judged, verdict, and_write, sweep, verdict_at, swept}
use Rattle.hy_machine.specs.Turns.{phase_turn}
use Rattle.hy_lawful.specs.Rows.{Demand, StatementMeets}
use Rattle.hy_lawful.proofs.Backs.{seen_then, backs_all}
use Rattle.hy_lawful.proofs.ViewRows.{CellMeets, TablesMeet, WritesMeet, cell_meets}
use Rattle.hy_machine.specs.TurnCases.{WriteCases, StatementCases, UndoCases, statement_cases, undo_cases, stamp_cases, working_cases}

-- the rows that a turn of an open transaction writes meet the demand
abbrev pub TurnMeets : Demand → Turn Write → Type 0
TurnMeets P Done = Unit {0}
TurnMeets P (Waits by) = Unit {0}
TurnMeets P Begins = ⊥
TurnMeets P (Visits writes phase) = WritesMeet P writes
TurnMeets P (Answers writes reply took records) = WritesMeet P writes
TurnMeets P (Saves statement reply) = Unit {0}
TurnMeets P Enters = Unit {0}
TurnMeets P (Ends ending) = Unit {0}

-- ---- what an UPDATE or a DELETE writes

-- what it makes of a row that meets the demand meets it, if it leaves a row
abbrev KindMeets : Demand → ℕ → WriteKind → Type 0
KindMeets P table (kind.Set sets) = (row : List Value) → P table row → IfSome (assigned sets row) (P table)
KindMeets P table kind.Delete = Unit {0}

-- a cell that a row becomes meets it, if it becomes one
abbrev MadeMeets : Demand → ℕ → Option Cell → Type 0
MadeMeets P table made = IfSome made (CellMeets P table)

made_meets : (P : Demand) (table : ℕ) (kind : WriteKind) (row : List Value) → KindMeets P table kind → P table row → MadeMeets P table (new_cell kind row)
made_meets P table (kind.Set sets) row k h = by_row (assigned sets row) (k row h)
  where
    by_row : (new : Option (List Value)) → IfSome new (P table) → MadeMeets P table (option_map Some new)
    by_row None e = tt
    by_row (Some new) e = e
made_meets P table kind.Delete row k h = tt

abbrev VerdictMeets : Demand → ℕ → Result (Option Cell) Ending → Type 0
VerdictMeets P table verdict = IfOk verdict (MadeMeets P table)

judged_meets : (P : Demand) (table pos : ℕ) (other : Option Label) (made : Option Cell) → MadeMeets P table made
    → VerdictMeets P table (judged table pos other made)
judged_meets P table pos (Some label) made h = tt
judged_meets P table pos None None h = tt
judged_meets P table pos None (Some cell) h = h

verdict_meets : (P : Demand) (kind : WriteKind) (pred : Condition) (table pos : ℕ) (other : Option Label) (cell : Cell) → KindMeets P table kind
    → CellMeets P table cell → VerdictMeets P table (verdict kind pred table pos other cell)
verdict_meets P kind pred table pos other None k h = tt
verdict_meets P kind pred table pos other (Some row) k h = elim (cases_Bool (truth_of pred row)) [
  | inl t ↦ rw t (judged_meets P table pos other (new_cell kind row) (made_meets P table kind row k h))
  | inr f ↦ rw f tt
]

abbrev SweptMeets : Demand → Result (List Write) Ending → Type 0
SweptMeets P result = IfOk result (WritesMeet P)

and_meets : (P : Demand) (table pos : ℕ) (here : Result (Option Cell) Ending) (more : Result (List Write) Ending) → VerdictMeets P table here
    → SweptMeets P more → SweptMeets P (and_write table pos here more)
and_meets P table pos (Err cause) more h k = tt
and_meets P table pos (Ok cell) (Err cause) h k = tt
and_meets P table pos (Ok None) (Ok writes) h k = k
and_meets P table pos (Ok (Some cell)) (Ok writes) h k = (h, k)

sweep_meets : (P : Demand) (table : ℕ) (judge : ℕ → Result (Option Cell) Ending) (positions : List ℕ)
    → ((pos : ℕ) → VerdictMeets P table (judge pos)) → SweptMeets P (sweep table judge positions)
sweep_meets P table judge [] h = tt
sweep_meets P table judge (pos ∷ positions) h =
    and_meets P table pos (judge pos) (sweep table judge positions) (h pos) (sweep_meets P table judge positions h)

swept_meets : (P : Demand) (setting : Setting) (state : State) (number : ℕ) (begun : Begun) (kind : WriteKind) (pred : Condition) (table chunk : ℕ)
    → KindMeets P table kind → TablesMeet P (view setting state begun) → SweptMeets P (swept setting state number begun kind pred table chunk)
swept_meets P setting state number begun kind pred table chunk k h =
    sweep_meets P table (verdict_at setting state number begun kind pred table) (positions_in setting chunk)
    (λ pos. verdict_meets P kind pred table pos (opponent setting state number begun.prefix table pos)
    (item_at (view setting state begun) table pos) k (cell_meets P (view setting state begun) table pos h))

-- ---- turns

-- the rows that a transaction sees meet the demand, and those that it saw at its savepoints
pub record SeesMeet (P : Demand) (setting : Setting) (state : State) (begun : Begun) : Type 0 where
  pub now : TablesMeet P (view setting state begun)
  pub saved : (name : List ℕ) → TablesMeet P (seen_then setting state begun name)

backs_meet : (P : Demand) (setting : Setting) (state : State) (begun : Begun) (name : List ℕ) (table chunk : ℕ)
    → TablesMeet P (seen_then setting state begun name) → WritesMeet P (taken_back setting state begun name table chunk)
backs_meet P setting state begun name table chunk h =
    backs_all (λ (write : Write). CellMeets P write.table write.cell) setting state begun name table chunk
    (λ pos since. cell_meets P (seen_then setting state begun name) table pos h)

writes_meet : (P : Demand) (setting : Setting) (begun : Begun) (visited count : ℕ) (statement : Bound) (kind : WriteKind)
    (result : Result (List Write) Ending) → SweptMeets P result → WriteCases setting begun (TurnMeets P) visited count statement kind result
writes_meet P setting begun visited count statement kind result h = record {
  out = λ cause e. tt;
  goes = λ writes e few. subst (SweptMeets P) e h;
  ends = λ writes e. subst (SweptMeets P) e h;
}

statement_meets : (P : Demand) (setting : Setting) (state : State) (number : ℕ) (begun : Begun) (visited count : ℕ) (statement : Bound)
    → StatementMeets P statement → SeesMeet P setting state begun
    → StatementCases setting state number begun (TurnMeets P) visited count statement
statement_meets P setting state number begun visited count (Select tables ons pred items) fits h =
    record { goes = λ few. tt; ends = tt }
statement_meets P setting state number begun visited count (Group table pred key aggregate) fits h =
    record { goes = λ few. tt; ends = tt }
statement_meets P setting state number begun visited count (Insert table row) fits h =
    record { checked = λ few. tt; twice = tt; takes = λ pos e. (fits, tt); goes = λ past e few. tt; full = λ past e most. tt }
statement_meets P setting state number begun visited count (Update table sets pred) fits h =
    writes_meet P setting begun visited count (Update table sets pred) (kind.Set sets)
    (swept setting state number begun (kind.Set sets) pred table visited)
    (swept_meets P setting state number begun (kind.Set sets) pred table visited fits h.now)
statement_meets P setting state number begun visited count (Delete table pred) fits h =
    writes_meet P setting begun visited count (Delete table pred) kind.Delete
    (swept setting state number begun kind.Delete pred table visited) (swept_meets P setting state number begun kind.Delete pred table visited tt h.now)
statement_meets P setting state number begun visited count (Savepoint name) fits h = record { waits = λ by is. tt; saves = λ free. tt }
statement_meets P setting state number begun visited count (RollbackTo name) fits h = record {
  goes = λ chunk e. backs_meet P setting state begun name chunk.0 chunk.1 (h.saved name);
  ends = λ none. record { waits = λ by is. tt; saves = λ free. tt };
}
statement_meets P setting state number begun visited count (Release name) fits h = record { waits = λ by is. tt; saves = λ free. tt }

-- what holds of statements holds of the one of this number
pub present_statement : (P : Bound → Type 0) (statements : List Bound) (n : ℕ) (statement : Bound) → AllByRecursion P statements
    → slice_get statements n ≡ Some statement → P statement
present_statement P [] n statement h e = absurd cc
present_statement P (first ∷ statements) zero statement h e = subst P (same_Some first statement e) h.0
present_statement P (first ∷ statements) (suc n) statement h e = present_statement P statements n statement h.1 e

undo_meets : (P : Demand) (setting : Setting) (state : State) (number : ℕ) (begun : Begun) (visited : ℕ) (cause : Ending)
    → UndoCases setting state number begun (TurnMeets P) visited cause
undo_meets P setting state number begun visited cause = record { goes = λ few. tt; waits = λ by is. tt; ends = λ free. tt }

-- the turn of an open transaction whose statements meet the demand
pub phase_meets : (P : Demand) (setting : Setting) (state : State) (number : ℕ) (txn : Txn) (begun : Begun) (phase : Phase)
    → AllByRecursion (StatementMeets P) txn.statements → SeesMeet P setting state begun
    → TurnMeets P (phase_turn setting state number txn begun phase)
phase_meets P setting state number txn begun (Working visited count) fits h =
    working_cases setting state number begun (TurnMeets P) txn visited count
    (λ statement e. statement_cases setting state number begun (TurnMeets P) visited count statement
    (statement_meets P setting state number begun visited count statement
    (present_statement (StatementMeets P) txn.statements (length begun.replies) statement fits e) h))
    (λ none commits. record { waits = λ by is. tt; reads = λ free nothing. tt; enters = λ free some e. tt; out = λ some cause e. tt })
    (λ none rolls. undo_meets P setting state number begun 0 RolledBack)
phase_meets P setting state number txn begun (Stamping visited) fits h =
    stamp_cases setting state number begun (TurnMeets P) visited (λ few. tt) tt
phase_meets P setting state number txn begun (Undoing visited cause) fits h =
    undo_cases setting state number begun (TurnMeets P) visited cause (undo_meets P setting state number begun visited cause)
