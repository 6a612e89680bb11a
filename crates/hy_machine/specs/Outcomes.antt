-- What a state comes to.
use Rattle.std.specs.Prelude.{ℕ, suc, ◌+◌, List, [], ◌∷◌, ◌++◌, Bool, false, ◌==◌, Option, None, Some, map, slice_get, if◌then◌else◌}
use Rattle.hy_value.specs.declared.Value.{Value}
use Rattle.hy_value.specs.Sorted.{sorted}
use Rattle.hy_bound.specs.declared.Txn.{Txn}
use Rattle.hy_bound.specs.declared.Bound.{Bound}
use Rattle.hy_bound.specs.declared.Bound.TheVariants.{Select, Group, Insert, Update, Delete, Savepoint, RollbackTo, Release}
use Rattle.hy_bound.specs.Changes.{present}
use Rattle.hy_render.specs.declared.TxnOutcome.{TxnOutcome}
use Rattle.hy_render.specs.declared.Outcome.{Outcome}
use Rattle.hy_machine.specs.declared.Setting.{Setting}
use Rattle.hy_machine.specs.States.{State, Session, Finished}
use Rattle.hy_machine.specs.Tables.{Cell, history, opening_tables}
use Rattle.hy_machine.specs.Writes.{written}
use Rattle.hy_machine.specs.Sessions.{program_of}
use Rattle.hy_machine.specs.Validation.{committed_of}

-- whether a statement is an INSERT into a table
abbrev pub inserts_into : ℕ → Bound → Bool
inserts_into table (Select tables ons pred items) = false
inserts_into table (Group other pred key aggregate) = false
inserts_into table (Insert other row) = other == table
inserts_into table (Update other sets pred) = false
inserts_into table (Delete other pred) = false
inserts_into table (Savepoint name) = false
inserts_into table (RollbackTo name) = false
inserts_into table (Release name) = false

-- one more where a statement took a position of a table
abbrev pub placed_by : ℕ → Bound → Option ℕ → ℕ
placed_by table statement None = 0
placed_by table statement (Some pos) = if inserts_into table statement then 1 else 0

-- how many positions of a table answered statements took
abbrev pub placed_in : ℕ → List Bound → List (Option ℕ) → ℕ
placed_in table [] took = 0
placed_in table (statement ∷ statements) [] = 0
placed_in table (statement ∷ statements) (one ∷ took) = placed_by table statement one + placed_in table statements took

-- of each table, so many being left, the first of them having this number
abbrev pub placed_from : {A : Type 0} → ℕ → List Bound → List (Option ℕ) → List A → List ℕ
placed_from table statements took [] = []
placed_from table statements took (_ ∷ tables) = placed_in table statements took ∷ placed_from (suc table) statements took tables

abbrev pub statements_in : Option Txn → List Bound
statements_in None = []
statements_in (Some txn) = txn.statements

-- what an ended transaction came to, whose script has so many before it
abbrev pub txn_outcome_of : Setting → ℕ → ℕ → Finished → TxnOutcome
txn_outcome_of setting session before finished = record {
  label = record { session = session; txn = suc before };
  start = finished.begun.prefix;
  replies = finished.begun.replies;
  ending = finished.ending;
  wrote = written finished.begun.own;
  placed = placed_from 0 (statements_in (slice_get (program_of setting session) before)) finished.begun.took setting.first;
}

-- the ended transactions of a session, with so many before the first of them
abbrev pub outcomes_from : Setting → ℕ → ℕ → List Finished → List TxnOutcome
outcomes_from setting session before [] = []
outcomes_from setting session before (finished ∷ others) =
    txn_outcome_of setting session before finished ∷ outcomes_from setting session (suc before) others

-- of all sessions, the first of them having this number
abbrev pub all_outcomes_from : Setting → ℕ → List Session → List TxnOutcome
all_outcomes_from setting number [] = []
all_outcomes_from setting number (session ∷ sessions) =
    outcomes_from setting number 0 session.done ++ all_outcomes_from setting (suc number) sessions

-- the rows of a table, ascending
abbrev pub rows_sorted : List Cell → List (List Value)
rows_sorted cells = sorted (present cells)

-- what a state comes to: its ended transactions, the commit order with its changes, the tables after it
abbrev pub outcome_of : Setting → State → Outcome
outcome_of setting state = record {
  txns = all_outcomes_from setting 0 state.sessions;
  order = map committed_of state.order;
  tables = map rows_sorted (history (opening_tables setting) state.order);
}
