-- A visit of the core is the machine's turn: for each kind of visit.
use Rattle.std.specs.Prelude.{◌≡◌, ℕ, ◌-◌, ◌≤◌, ◌==◌, List, false, None, Some, slice_get, drop, filter, length, map}
use Rattle.std.specs.Option.{option_map}
use Rattle.hy_bound.specs.declared.Bound.{Bound}
use Rattle.hy_bound.specs.declared.Reply.{Reply}
use Rattle.hy_bound.specs.declared.Ending.{Ending}
use Rattle.hy_bound.specs.declared.Ending.TheVariants.{Committed}
use Rattle.hy_stamp.specs.declared.Label.{Label}
use Rattle.hy_stamp.specs.Times.{IsLabel}
use Rattle.hy_validate.specs.Hits.{first_invalid}
use Rattle.hy_journal.specs.declared.CoreData.{CoreData}
use Rattle.hy_journal.specs.declared.Entry.{Entry}
use Rattle.hy_notes.specs.Notes.{is_change}
use Rattle.hy_event.specs.declared.SessionData.{SessionData}
use Rattle.hy_event.specs.declared.Open.{Open}
use Rattle.hy_protocol.specs.declared.Phase.TheVariants as phase
use Rattle.hy_protocol.specs.declared.Progress.{Progress}
use Rattle.hy_event.specs.Sessions.{label_of}
use Rattle.hy_event.specs.Turns.{Takes}
use Rattle.hy_event.specs.CoreTurns.{TakesAtCore, invalid_by}
use Rattle.hy_event.specs.Events.{Part, CorePart}
use Rattle.hy_machine.specs.declared.Setting.{Setting}
use Rattle.hy_machine.specs.States.{State, Open as MachineOpen}
use Rattle.hy_protocol.specs.Turns.{Waits, Begins, Saves, Enters, Ends, refused, is_stamping}
use Rattle.hy_machine.specs.Writes.{written_chunks, wrote_nothing}
use Rattle.hy_machine.specs.Sessions.{blocker}
use Rattle.hy_machine.specs.Holding.{holds}
use Rattle.hy_machine.specs.Tables.{Entry as Entered}
use Rattle.hy_machine.specs.Positions.{by_place}
use Rattle.hy_machine.specs.Validation.{change_at, first_hit, committed_of}
use Rattle.hy_refinement.specs.Numbers.{EntryShows}
use Rattle.hy_refinement.specs.Shows.{Shows}
use Rattle.hy_refinement.specs.Taken.{ShownState, AtOpen, AtStatement, IsTaken, core_number}

-- a session without an open transaction, whose next one has a label
pub record AtRest (setting : Setting) (state : State) (parts : List Part) (sessions : List SessionData) (number : ℕ)
    (session : SessionData) : Type 0 where
  pub shown : ShownState setting state parts sessions
  pub found : slice_get sessions number ≡ Some session
  pub rests : session.now ≡ None
  pub label : IsLabel (label_of session)

-- nobody stands between an entry and an end but this session
abbrev pub IsFreeToGo : State → ℕ → Type 0
IsFreeToGo state number = blocker state number ≡ None

-- a transaction begins
abbrev pub BeginsAreTaken : Type 0
BeginsAreTaken =
    (setting : Setting) (state : State) (parts : List Part) (sessions : List SessionData) (number : ℕ) (session : SessionData)
    (progress : Progress) (after : SessionData) (new : CoreData)
    → (at : AtRest setting state parts sessions number session) → IsFreeToGo state number
    → TakesAtCore session at.shown.shows.core (Some Begins) progress after new
    → IsTaken setting state parts sessions number Begins (core_number setting) progress after (CorePart new)

-- an open transaction holds no position
abbrev pub HoldsNothing : Setting → MachineOpen → Type 0
HoldsNothing setting current = (table pos : ℕ) → holds setting table pos (Some current) ≡ false

-- a transaction that has no entry and holds nothing ends
abbrev pub ClosesAreTaken : Type 0
ClosesAreTaken =
    (setting : Setting) (state : State) (parts : List Part) (sessions : List SessionData) (number : ℕ) (session : SessionData)
    (now : Open) (current : MachineOpen) (ending : Ending) (progress : Progress) (after : SessionData) (new : CoreData)
    → (at : AtOpen setting state parts sessions number session now current) → IsFreeToGo state number
    → is_stamping current.phase ≡ false → HoldsNothing setting current
    → TakesAtCore session at.shown.shows.core (Some (Ends ending)) progress after new
    → IsTaken setting state parts sessions number (Ends ending) (core_number setting) progress after (CorePart new)

-- a transaction that stamped all its chunks ends
abbrev pub LeavesAreTaken : Type 0
LeavesAreTaken =
    (setting : Setting) (state : State) (parts : List Part) (sessions : List SessionData) (number : ℕ) (session : SessionData)
    (now : Open) (current : MachineOpen) (visited : ℕ) (progress : Progress) (after : SessionData) (new : CoreData)
    → (at : AtOpen setting state parts sessions number session now current)
    → now.phase ≡ phase.Stamping visited → length (written_chunks setting current.begun.own) ≤ visited
    → TakesAtCore session at.shown.shows.core (Some (Ends (Committed (length state.order - 1)))) progress after new
    → IsTaken setting state parts sessions number (Ends (Committed (length state.order - 1))) (core_number setting) progress after (CorePart new)

-- a statement that opens or closes savepoints is answered
abbrev pub SavesAreTaken : Type 0
SavesAreTaken =
    (setting : Setting) (state : State) (parts : List Part) (sessions : List SessionData) (number : ℕ) (session : SessionData)
    (now : Open) (current : MachineOpen) (visited count : ℕ) (statement : Bound) (reply : Reply)
    (progress : Progress) (after : SessionData) (new : CoreData)
    → (at : AtOpen setting state parts sessions number session now current)
    → AtStatement setting state number now visited count (Some statement)
    → TakesAtCore session at.shown.shows.core (Some (Saves statement reply)) progress after new
    → IsTaken setting state parts sessions number (Saves statement reply) (core_number setting) progress after (CorePart new)

-- ---- COMMIT

-- a transaction has notes exactly where the machine's has written
abbrev pub NotesAreWrites : Type 0
NotesAreWrites =
    (setting : Setting) (state : State) (parts : List Part) (sessions : List SessionData) (number : ℕ) (session : SessionData)
    (now : Open) (current : MachineOpen)
    → AtOpen setting state parts sessions number session now current → is_stamping current.phase ≡ false
    → (length now.notes == 0) ≡ wrote_nothing current.begun.own

-- validation finds the first hit that the machine finds
abbrev pub HitsAreTheMachines : Type 0
HitsAreTheMachines =
    (setting : Setting) (state : State) (parts : List Part) (sessions : List SessionData) (number : ℕ) (session : SessionData)
    (now : Open) (current : MachineOpen)
    → (at : AtOpen setting state parts sessions number session now current)
    → option_map (invalid_by now.records) (first_invalid now.records (drop now.prefix at.shown.shows.core.entries))
    ≡ first_hit current.begun.records (map committed_of (drop current.begun.prefix state.order))

-- a transaction whose statements are all answered enters the journal
abbrev pub EntersAreTaken : Type 0
EntersAreTaken =
    (setting : Setting) (state : State) (parts : List Part) (sessions : List SessionData) (number : ℕ) (session : SessionData)
    (now : Open) (current : MachineOpen) (visited count : ℕ) (progress : Progress) (after : SessionData) (new : CoreData)
    → (at : AtOpen setting state parts sessions number session now current) → IsFreeToGo state number
    → AtStatement setting state number now visited count None
    → TakesAtCore session at.shown.shows.core (Some Enters) progress after new
    → IsTaken setting state parts sessions number Enters (core_number setting) progress after (CorePart new)

-- ---- without a change of a part

-- a transaction that is refused will be undone
abbrev pub RefusalsAreTaken : Type 0
RefusalsAreTaken =
    (setting : Setting) (state : State) (parts : List Part) (sessions : List SessionData) (number : ℕ) (session : SessionData)
    (now : Open) (current : MachineOpen) (visited count : ℕ) (cause : Ending) (part : ℕ) (present : Part) (progress : Progress) (after : SessionData)
    → AtOpen setting state parts sessions number session now current
    → now.phase ≡ phase.Working visited count → slice_get parts part ≡ Some present
    → Takes session (refused cause) progress after
    → IsTaken setting state parts sessions number (refused cause) part progress after present

-- a session that waits stays as it is
abbrev pub WaitsAreTaken : Type 0
WaitsAreTaken =
    (setting : Setting) (state : State) (parts : List Part) (sessions : List SessionData) (number : ℕ) (session : SessionData)
    (by : Label) (part : ℕ) (present : Part) (progress : Progress) (after : SessionData)
    → Shows setting state parts sessions → slice_get sessions number ≡ Some session → slice_get parts part ≡ Some present
    → Takes session (Waits by) progress after
    → IsTaken setting state parts sessions number (Waits by) part progress after present

-- ---- the journal

-- the changes among the notes of an entry that is shown are those that the machine's entry commits
abbrev pub EntriesTellChanges : Type 0
EntriesTellChanges = (entered : Entered) (entry : Entry) → EntryShows entered entry → filter is_change entry.notes ≡ by_place change_at entered.cells
