-- What a session's turn makes of it.
use Rattle.std.specs.Prelude.{◌≡◌, ℕ, suc, List, [], ◌∷◌, ◌++◌, Option, None, Some, length, map}
use Rattle.std.specs.Option.{option_map}
use Rattle.hy_value.specs.declared.Value.{Value}
use Rattle.hy_bound.specs.declared.Bound.{Bound}
use Rattle.hy_bound.specs.declared.Ending.{Ending}
use Rattle.hy_bound.specs.declared.Record.{Record}
use Rattle.hy_bound.specs.declared.Reply.{Reply}
use Rattle.hy_bound.specs.Savepoints.{Saved, saved_after}
use Rattle.hy_value.specs.declared.change.Change.{Change}
use Rattle.hy_notes.specs.Notes.{with_note}
use Rattle.hy_journal.specs.declared.CoreData.{CoreData}
use Rattle.hy_render.specs.declared.TxnOutcome.{TxnOutcome}
use Rattle.hy_protocol.specs.declared.Phase.{Phase}
use Rattle.hy_protocol.specs.declared.Phase.TheVariants.{Working, Stamping}
use Rattle.hy_protocol.specs.declared.Progress.{Progress}
use Rattle.hy_protocol.specs.declared.Progress.TheVariants.{Blocked, Moved, Answered, Ended}
use Rattle.hy_protocol.specs.Turns.{Turn, Done, Waits, Begins, Visits, Answers, Saves, Enters, Ends}
use Rattle.hy_protocol.specs.Statements.{answers}
use Rattle.hy_event.specs.declared.SessionData.{SessionData}
use Rattle.hy_event.specs.declared.Open.{Open}
use Rattle.hy_event.specs.declared.SavedNotes.{SavedNotes}
use Rattle.hy_event.specs.Sessions.{layout_of, written, savepoint_of}
use Rattle.hy_event.specs.Ended.{outcome_of}

-- ---- turns of a statement

-- a statement is answered: its reply, and the records of what it read of these rows
abbrev pub answer_turn : SessionData → Open → Bound → List (List (List Value)) → List Change → Reply → Option ℕ → Turn Change
answer_turn session now = answers (layout_of session) (length now.replies)

-- ---- an open transaction after a turn

-- notes with more changes, one after another
abbrev pub with_notes : List Change → List Change → List Change
with_notes notes [] = notes
with_notes notes (change ∷ changes) = with_notes (with_note change notes) changes

-- one more change is noted since a savepoint
abbrev pub note_since : Change → SavedNotes → SavedNotes
note_since change one = record one { since = with_note change one.since }

-- savepoints with more changes noted since each, one after another
abbrev pub with_since : List SavedNotes → List Change → List SavedNotes
with_since saved [] = saved
with_since saved (change ∷ changes) = with_since (map (note_since change) saved) changes

-- after a visit that wrote this
abbrev pub after_visit : List Change → Phase → Open → Open
after_visit changes phase now =
    record now { notes = with_notes now.notes changes; saved = with_since now.saved changes; phase = phase }

-- after a statement was answered
abbrev pub after_answer : List Change → Reply → Option ℕ → List Record → Open → Open
after_answer changes reply took records now = record now {
  notes = with_notes now.notes changes;
  saved = with_since now.saved changes;
  took = now.took ++ took ∷ [];
  replies = now.replies ++ reply ∷ [];
  records = now.records ++ records;
  gathered = [];
  phase = Working 0 0;
}

-- savepoints, by what they keep
abbrev pub saved_of : Saved (List Change) → SavedNotes
saved_of one = record { name = one.name; since = one.was }

-- after its savepoints became those after a statement, which was answered so: since a new one nothing is noted
abbrev pub after_saving : Bound → Reply → Open → Open
after_saving statement reply now =
    after_answer [] reply None [] (record now { saved = map saved_of (saved_after statement (map savepoint_of now.saved) []) })

-- a transaction that begins: its prefix is the whole journal, and its own start is in its cover
abbrev pub beginning : CoreData → Open
beginning core = record {
  start = core.next;
  prefix = length core.entries;
  cover = record { starts = core.active ++ core.next ∷ []; next = suc core.next };
  replies = [];
  records = [];
  took = [];
  gathered = [];
  notes = [];
  saved = [];
  wrote = [];
  time = 0;
  phase = Working 0 0;
}

-- the next time of a core that is visited
abbrev pub time_at : Option CoreData → ℕ
time_at None = 0
time_at (Some core) = core.next

-- after its notes went into an entry: the positions that it wrote stay, and no savepoint does
abbrev pub after_entry : ℕ → Open → Open
after_entry time now = record now { notes = []; saved = []; wrote = written now; time = time; phase = Stamping 0 }

-- ---- a session after a turn

-- the ended transactions of a session, and the one that ends, if one is open
abbrev pub done_with : SessionData → Ending → Option Open → List TxnOutcome
done_with session ending None = session.done
done_with session ending (Some now) = session.done ++ outcome_of session now ending ∷ []

-- a session that begins a transaction
abbrev pub with_open : Open → SessionData → SessionData
with_open now session = record session { now = Some now }

-- a session whose open transaction, if it has one, is changed
abbrev pub with_changed : (Open → Open) → SessionData → SessionData
with_changed change session = record session { now = option_map change session.now }

-- a session whose open transaction ends
abbrev pub with_ended : Ending → SessionData → SessionData
with_ended ending session = record session { done = done_with session ending session.now; now = None }

-- a session after a visit, and what the visit came to
abbrev pub Step : Type 0
Step = SessionData × Progress

-- what a turn makes of a session that visits the core, or else a chunk, where it neither begins nor enters
abbrev pub after_turn : Option CoreData → SessionData → Turn Change → Step
after_turn core session Done = (session, Ended)
after_turn core session (Waits by) = (session, Blocked by)
after_turn core session Begins = (record session { now = option_map beginning core }, Answered)
after_turn core session (Visits changes phase) = (with_changed (after_visit changes phase) session, Moved)
after_turn core session (Answers changes reply took records) = (with_changed (after_answer changes reply took records) session, Answered)
after_turn core session (Saves statement reply) = (with_changed (after_saving statement reply) session, Answered)
after_turn core session Enters = (with_changed (after_entry (time_at core)) session, Moved)
after_turn core session (Ends ending) = (with_ended ending session, Answered)

-- a session took this turn at a chunk
abbrev pub Takes : SessionData → Turn Change → Progress → SessionData → Type 0
Takes session turn progress after = (after, progress) ≡ after_turn None session turn

-- a session took this turn at the core
abbrev pub TakesBy : CoreData → SessionData → Turn Change → Progress → SessionData → Type 0
TakesBy core session turn progress after = (after, progress) ≡ after_turn (Some core) session turn
