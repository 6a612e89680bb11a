-- What a session does next: what it finds out is read off the state.
use Rattle.std.specs.Prelude.{ℕ, ◌-◌, List, [], Bool, Option, Some, Result, slice_index_or, length, drop, map}
use Rattle.hy_value.specs.declared.Value.{Value}
use Rattle.hy_bound.specs.declared.Aggregate.{Aggregate}
use Rattle.hy_bound.specs.declared.Txn.{Txn}
use Rattle.hy_bound.specs.declared.Bound.{Bound}
use Rattle.hy_bound.specs.declared.Items.{Items}
use Rattle.hy_bound.specs.declared.On.{On}
use Rattle.hy_bound.specs.declared.WriteKind.{WriteKind}
use Rattle.hy_bound.specs.declared.Reply.{Reply}
use Rattle.hy_bound.specs.Changes.{present}
use Rattle.hy_bound.specs.Condition.{Condition}
use Rattle.hy_meaning.specs.Statement.{answer_of, grouped}
use Rattle.hy_bound.specs.declared.Ending.{Ending}
use Rattle.hy_protocol.specs.declared.Phase.{Phase}
use Rattle.hy_protocol.specs.Asking.{Places, InChunks, AtCore}
use Rattle.hy_protocol.specs.Turns.{Turn}
use Rattle.hy_protocol.specs.Statements as by_statement
use Rattle.hy_protocol.specs.Closing as by_closing
use Rattle.hy_protocol.specs.Sessions as by_phase
use Rattle.hy_machine.specs.declared.Setting.{Setting}
use Rattle.hy_machine.specs.States.{State, Open, Begun}
use Rattle.hy_machine.specs.Writes.{Write, wrote_nothing, written_chunks}
use Rattle.hy_machine.specs.Tables.{Tables}
use Rattle.hy_machine.specs.Sessions.{session_at, txn_at, blocker, view}
use Rattle.hy_machine.specs.Validation.{committed_of, first_hit}
use Rattle.hy_machine.specs.Visits.{layout_of, swept, sees_key, free_position}
use Rattle.hy_machine.specs.Saving.{written_since, taken_back}

-- ---- what a session finds out

-- the rows that a transaction sees in a table
abbrev pub rows_seen : Tables → ℕ → List (List Value)
rows_seen tables table = present (slice_index_or tables table [])

-- what a SELECT logs of the tables that its transaction sees, and its reply; and the reply of one with GROUP BY
abbrev pub selected_of : Tables → List ℕ → List On → Condition → Items → List (List (List Value)) × Reply
selected_of seen tables ons pred items = (map (rows_seen seen) tables, answer_of ons pred items (map (rows_seen seen) tables))

abbrev pub grouped_of : Tables → ℕ → Condition → ℕ → Aggregate → Reply
grouped_of seen table pred key aggregate = grouped pred key aggregate (rows_seen seen table)

-- a row comes to a position
abbrev pub row_written : ℕ → List Value → ℕ → Write
row_written table row pos = record { table = table; pos = pos; cell = Some row }

abbrev pub places_of : Setting → State → Begun → Places Write
places_of setting state begun = record {
  sees_key = sees_key setting state begun;
  free_position = free_position setting state begun;
  put = row_written;
}

-- what a session's open transaction finds out in the tables, for itself, and of the commit order
abbrev pub found_in_chunks : Setting → State → ℕ → Begun → InChunks Write
found_in_chunks setting state number begun = record {
  selected = selected_of (view setting state begun);
  grouped = grouped_of (view setting state begun);
  swept = swept setting state number begun;
  places = places_of setting state begun;
  written_since = written_since setting begun;
  taken_back = taken_back setting state begun;
}

abbrev pub found_at_core : Setting → State → ℕ → Begun → AtCore
found_at_core setting state number begun = record {
  blocked = blocker state number;
  wrote_nothing = wrote_nothing begun.own;
  written = written_chunks setting begun.own;
  hit = first_hit begun.records (map committed_of (drop begun.prefix state.order));
  last = length state.order - 1;
}

-- ---- what it does

-- a statement is answered: its reply, and the records of what it read
abbrev pub answers : Setting → Begun → Bound → List (List (List Value)) → List Write → Reply → Option ℕ → Turn Write
answers setting begun = by_statement.answers (layout_of setting) (length begun.replies)

-- a visit of a SELECT of so many tables
abbrev pub read_turn : Setting → Begun → ℕ → ℕ → Bound → List (List (List Value)) → Reply → Turn Write
read_turn setting begun = by_statement.read_turn (layout_of setting) (length begun.replies)

-- a visit of an UPDATE or a DELETE, by what it does in its chunk
abbrev pub write_turn : Setting → Begun → ℕ → ℕ → Bound → WriteKind → Result (List Write) Ending → Turn Write
write_turn setting begun = by_statement.write_turn (layout_of setting) (length begun.replies)

-- a visit of an INSERT that looks for its key
abbrev pub check_turn : Setting → Begun → ℕ → Bound → Bool → Turn Write
check_turn setting begun = by_statement.check_turn (layout_of setting) (length begun.replies)

-- a visit of an INSERT that looks for a free position of a chunk
abbrev pub place_turn : Setting → Begun → ℕ → ℕ → Bound → ℕ → List Value → Option ℕ → Turn Write
place_turn setting begun visited chunk statement table row =
    by_statement.place_turn (layout_of setting) (length begun.replies) visited chunk statement table (row_written table row)

-- a visit of an INSERT: the checks first
abbrev pub insert_turn : Setting → State → Begun → ℕ → Bound → ℕ → List Value → Option ℕ → Turn Write
insert_turn setting state begun = by_statement.insert_turn (layout_of setting) (places_of setting state begun) (length begun.replies)

-- a statement that opens or closes savepoints, at the core
abbrev pub saving_turn : Setting → State → ℕ → Begun → Bound → Turn Write
saving_turn setting state number begun = by_statement.saving_turn (found_at_core setting state number begun)

-- a visit of a ROLLBACK TO
abbrev pub back_turn : Setting → State → ℕ → Begun → ℕ → List ℕ → Option (ℕ × ℕ) → Turn Write
back_turn setting state number begun =
    by_statement.back_turn (found_in_chunks setting state number begun) (found_at_core setting state number begun)

-- a visit of the present statement
abbrev pub statement_turn : Setting → State → ℕ → Begun → ℕ → ℕ → Bound → Turn Write
statement_turn setting state number begun =
    by_statement.statement_turn (layout_of setting) (found_in_chunks setting state number begun) (found_at_core setting state number begun)
    (length begun.replies)

-- an undo visit for each chunk that was written, and then the end
abbrev pub undo_turn : Setting → State → ℕ → Begun → ℕ → Ending → Turn Write
undo_turn setting state number begun = by_closing.undo_turn (found_at_core setting state number begun)

-- a stamp visit for each chunk that was written, and then the end
abbrev pub stamp_turn : Setting → State → Begun → ℕ → Turn Write
stamp_turn setting state begun = by_closing.stamp_turn (written_chunks setting begun.own) (length state.order - 1)

-- COMMIT
abbrev pub commit_turn : Setting → State → ℕ → Begun → Turn Write
commit_turn setting state number begun = by_closing.commit_turn (found_at_core setting state number begun)

-- what closes a transaction: COMMIT, or ROLLBACK
abbrev pub closing_turn : Setting → State → ℕ → Begun → Bool → Turn Write
closing_turn setting state number begun = by_closing.closing_turn (found_at_core setting state number begun)

-- a visit of the present statement, or what closes the transaction where all are answered
abbrev pub working_turn : Setting → State → ℕ → Txn → Begun → ℕ → ℕ → Option Bound → Turn Write
working_turn setting state number txn begun =
    by_phase.working_turn (statement_turn setting state number begun) (found_at_core setting state number begun) txn

-- what an open transaction does, by where it stands
abbrev pub phase_turn : Setting → State → ℕ → Txn → Begun → Phase → Turn Write
phase_turn setting state number txn begun =
    by_phase.phase_turn (statement_turn setting state number begun) (found_at_core setting state number begun) txn (length begun.replies)

-- what a session does that is at this transaction of its script, which is open or not
abbrev pub session_turn : Setting → State → ℕ → Option Txn → Option Open → Turn Write
session_turn setting state number =
    by_phase.session_turn (blocker state number) (λ (txn : Txn) (current : Open). phase_turn setting state number txn current.begun current.phase)

-- what a session does next
abbrev pub turn : Setting → State → ℕ → Turn Write
turn setting state number = session_turn setting state number (txn_at setting number (session_at state number)) (session_at state number).now
