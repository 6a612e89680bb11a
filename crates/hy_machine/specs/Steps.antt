-- How a turn changes the state, and what a step is.
use Rattle.std.specs.Prelude.{ℕ, List, [], ◌∷◌, ◌++◌, Option, None, Some, slice_set, length}
use Rattle.std.specs.Option.{option_map}
use Rattle.hy_bound.specs.declared.Record.{Record}
use Rattle.hy_bound.specs.declared.Reply.{Reply}
use Rattle.hy_bound.specs.declared.Bound.{Bound}
use Rattle.hy_bound.specs.declared.Ending.{Ending}
use Rattle.hy_bound.specs.Savepoints.{saved_after}
use Rattle.hy_machine.specs.declared.Setting.{Setting}
use Rattle.hy_protocol.specs.declared.Phase.{Phase}
use Rattle.hy_protocol.specs.declared.Phase.TheVariants.{Working, Stamping}
use Rattle.hy_machine.specs.States.{State, Session, Open, Begun, Finished}
use Rattle.hy_machine.specs.Tables.{Entry}
use Rattle.hy_machine.specs.Writes.{Write, blank_own, with_writes, with_trail}
use Rattle.hy_protocol.specs.Turns.{Turn, Done, Waits, Begins, Visits, Answers, Saves, Enters, Ends}
use Rattle.hy_machine.specs.Turns.{turn}
use Rattle.hy_protocol.specs.declared.Progress.{Progress}
use Rattle.hy_protocol.specs.declared.Progress.TheVariants.{Blocked, Moved, Answered, Ended}
use Rattle.hy_machine.specs.Sessions.{session_at, least_prefix, entry_of}

-- the state after a step, and what the step came to
abbrev pub Step : Type 0
Step = State × Progress

-- the state with a session as it is then
abbrev pub with_session : State → ℕ → Session → State
with_session state number session = record state { sessions = slice_set state.sessions number session }

-- a transaction that begins: its prefix is the whole commit order
abbrev pub beginning : Setting → State → Begun
beginning setting state = record {
  prefix = length state.order;
  low = least_prefix (length state.order) state.sessions;
  own = blank_own setting;
  trail = [];
  saved = [];
  took = [];
  replies = [];
  records = [];
}

-- a session that begins a transaction
abbrev pub with_open : Begun → Session → Session
with_open begun session = record { done = session.done; now = Some (record { begun = begun; phase = Working 0 0 }) }

-- an open transaction after a visit that wrote this
abbrev pub after_visit : List Write → Phase → Open → Open
after_visit writes phase current = record {
  begun = record current.begun { own = with_writes current.begun.own writes; trail = with_trail current.begun.trail writes };
  phase = phase;
}

-- an open transaction after a statement was answered
abbrev pub after_answer : List Write → Reply → Option ℕ → List Record → Open → Open
after_answer writes reply took records current = record {
  begun = record current.begun {
    own = with_writes current.begun.own writes;
    trail = with_trail current.begun.trail writes;
    took = current.begun.took ++ took ∷ [];
    replies = current.begun.replies ++ reply ∷ [];
    records = current.begun.records ++ records;
  };
  phase = Working 0 0;
}

-- an open transaction after its savepoints became those after a statement, which was answered so
abbrev pub after_saving : Bound → Reply → Open → Open
after_saving statement reply current = after_answer [] reply None [] (record current {
  begun = record current.begun { saved = saved_after statement current.begun.saved (length current.begun.trail) };
})

-- a session whose open transaction, if it has one, is changed
abbrev pub with_changed : (Open → Open) → Session → Session
with_changed change session = record { done = session.done; now = option_map change session.now }

-- the ended transactions of a session, and the one that ends, if one is open
abbrev pub done_with : Ending → List Finished → Option Open → List Finished
done_with ending done None = done
done_with ending done (Some current) = done ++ record { begun = current.begun; ending = ending } ∷ []

-- a session whose open transaction ends
abbrev pub with_ended : Ending → Session → Session
with_ended ending session = record { done = done_with ending session.done session.now; now = None }

-- the commit order, and the entry of a session's open transaction
abbrev pub order_with : Setting → State → ℕ → Option Open → List Entry
order_with setting state number None = state.order
order_with setting state number (Some current) = state.order ++ entry_of setting state number current.begun ∷ []

-- the state after a session's entry goes into the commit order: the session is marked
abbrev pub with_entry : Setting → State → ℕ → State
with_entry setting state number = record {
  order = order_with setting state number (session_at state number).now;
  mark = Some number;
  sessions = slice_set state.sessions number (with_changed (after_visit [] (Stamping 0)) (session_at state number));
}

-- the state after a session's transaction ended: no session is marked
abbrev pub without_mark : State → State
without_mark state = record state { mark = None }

-- what a session's turn makes of the state
abbrev pub after_turn : Setting → State → ℕ → Turn Write → Step
after_turn setting state number Done = (state, Ended)
after_turn setting state number (Waits by) = (state, Blocked by)
after_turn setting state number Begins =
    (with_session state number (with_open (beginning setting state) (session_at state number)), Answered)
after_turn setting state number (Visits writes phase) =
    (with_session state number (with_changed (after_visit writes phase) (session_at state number)), Moved)
after_turn setting state number (Answers writes reply took records) =
    (with_session state number (with_changed (after_answer writes reply took records) (session_at state number)), Answered)
after_turn setting state number (Saves statement reply) =
    (with_session state number (with_changed (after_saving statement reply) (session_at state number)), Answered)
after_turn setting state number Enters = (with_entry setting state number, Moved)
after_turn setting state number (Ends ending) =
    (without_mark (with_session state number (with_ended ending (session_at state number))), Answered)

-- a step of a session
abbrev pub step_of : Setting → State → ℕ → Step
step_of setting state number = after_turn setting state number (turn setting state number)
