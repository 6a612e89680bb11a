-- What stays shown where one session's open transaction goes on, in one chunk or in none.
use Rattle.std.specs.Prelude.{◌≡◌, ◌≢◌, ℕ, ◌+◌, ◌*◌, ◌<◌, List, Option, Some, slice_get, slice_set, length, ◌∷◌, []}
use Rattle.hy_undo.specs.Chunks.{ChunkData}
use Rattle.hy_undo.specs.Places.{Place}
use Rattle.hy_value.specs.declared.change.Change.{Change}
use Rattle.hy_bound.specs.declared.Record.{Record}
use Rattle.hy_bound.specs.declared.Reply.{Reply}
use Rattle.hy_journal.specs.declared.CoreData.{CoreData}
use Rattle.hy_prune.specs.declared.Cover.{Cover}
use Rattle.hy_event.specs.declared.SessionData.{SessionData}
use Rattle.hy_event.specs.declared.Open.{Open}
use Rattle.hy_protocol.specs.declared.Phase.{Phase}
use Rattle.hy_protocol.specs.declared.Phase.TheVariants as phase
use Rattle.hy_protocol.specs.declared.Progress.{Progress}
use Rattle.hy_protocol.specs.Turns.{Visits as visits, Answers as answers}
use Rattle.hy_event.specs.Turns.{Takes, after_visit as visited_by, after_answer as answered_by}
use Rattle.hy_event.specs.Changing.{PrunesFirst}
use Rattle.hy_event.specs.Events.{Part, ChunkPart}
use Rattle.hy_machine.specs.declared.Setting.{Setting}
use Rattle.hy_machine.specs.States.{State, Open as MachineOpen}
use Rattle.hy_machine.specs.Writes.{Write}
use Rattle.hy_protocol.specs.Turns.{Visits, Answers}
use Rattle.hy_machine.specs.Positions.{item_at}
use Rattle.hy_machine.specs.Tables.{Cell, capacity}
use Rattle.hy_machine.specs.Sessions.{session_at, view}
use Rattle.hy_machine.specs.Holding.{holds}
use Rattle.hy_machine.specs.Steps.{with_session, after_visit, after_answer}
use Rattle.hy_refinement.specs.Stamped.{is_unstamped}
use Rattle.hy_refinement.specs.Transactions.{IsOpen}
use Rattle.hy_refinement.specs.Numbers.{StampingShows, CoreShows}
use Rattle.hy_refinement.specs.Sessions.{DoneSoFar, NotesShow, GatheredShows, IsHeld}
use Rattle.hy_refinement.specs.Places.{PlaceShows, cell_held}
use Rattle.hy_refinement.specs.Parts.{ChunkIs}
use Rattle.hy_refinement.specs.Pruned.{IsBelowIds}
use Rattle.hy_refinement.specs.Shows.{Shows}
use Rattle.hy_refinement.specs.Taken.{AtOpen, AtChunk, IsTaken, chunk_number}
use Rattle.hy_machine.specs.Kept.{OwnFits, TrailFits}

-- ---- a transaction goes on

-- the state where a session's open transaction is this one
abbrev pub gone_on : State → ℕ → MachineOpen → State
gone_on state number current = with_session state number (record { done = (session_at state number).done; now = Some current })

-- a session whose open transaction is this one
abbrev pub went_on : SessionData → Open → SessionData
went_on session now = record session { now = Some now }

-- the sessions, of which one's open transaction is this one
abbrev pub sessions_on : List SessionData → ℕ → SessionData → Open → List SessionData
sessions_on sessions number session now = slice_set sessions number (went_on session now)

-- what a transaction keeps as it goes on: its start, its prefixes, its cover
pub record KeepsStart (now then : Open) (current later : MachineOpen) : Type 0 where
  pub start : then.start ≡ now.start
  pub prefix : then.prefix ≡ now.prefix
  pub cover : then.cover ≡ now.cover
  pub prefix_there : later.begun.prefix ≡ current.begun.prefix
  pub low_there : later.begun.low ≡ current.begun.low

-- where it went on to is what the machine's went on to
pub record WentOn (setting : Setting) (state : State) (core : CoreData) (number : ℕ) (then : Open) (later : MachineOpen) : Type 0 where
  pub open_shows : DoneSoFar then later
  pub notes_show : state.mark ≢ Some number → NotesShow setting state then later
  pub gathered_shows : GatheredShows setting state number then later
  pub stamping : (visited : ℕ) → then.phase ≡ phase.Stamping visited → StampingShows core then later

-- at a position it stands as before: it holds it or not, has its cell there, and has stamped its chunk or not
pub record StandsAsBefore (setting : Setting) (state : State) (number table chunk pos : ℕ) (current later : MachineOpen) : Type 0 where
  pub holds_it : holds setting table pos (Some later) ≡ holds setting table pos (Some current)
  pub cell : cell_held setting state table pos later ≡ cell_held setting state table pos current
  pub unstamped : is_unstamped setting (gone_on state number later) table chunk ≡ is_unstamped setting state table chunk

-- ---- laws

-- where it stands as before at a position, the position shows what it showed
abbrev pub UnmovedPlacesShow : Type 0
UnmovedPlacesShow =
    (setting : Setting) (state : State) (core : CoreData) (sessions : List SessionData) (number : ℕ) (session : SessionData)
    (now then : Open) (current later : MachineOpen) (table chunk pos : ℕ) (place : Place)
    → IsOpen state sessions number session now current → KeepsStart now then current later
    → StandsAsBefore setting state number table chunk pos current later
    → PlaceShows setting state core sessions table chunk pos place
    → PlaceShows setting (gone_on state number later) core (sessions_on sessions number session then) table chunk pos place

-- it stands as before at every position of the other chunks
abbrev pub StandsElsewhere : Setting → State → ℕ → MachineOpen → MachineOpen → ℕ → ℕ → Type 0
StandsElsewhere setting state number current later table chunk =
    (other another index : ℕ) → ((other ≡ table) × (another ≡ chunk) → ⊥) → index < setting.rows
    → StandsAsBefore setting state number other another (another * setting.rows + index) current later

-- every position of a chunk shows the state
abbrev pub ChunkShows : Setting → State → CoreData → List SessionData → ℕ → ℕ → ChunkData → Type 0
ChunkShows setting state core sessions table chunk part =
    (index : ℕ) (place : Place) → slice_get part.places index ≡ Some place
    → PlaceShows setting state core sessions table chunk (chunk * setting.rows + index) place

-- a session goes on in a chunk, and all is shown, if the chunk is
abbrev pub ChunkVisitsShow : Type 0
ChunkVisitsShow =
    (setting : Setting) (state : State) (parts : List Part) (sessions : List SessionData) (number : ℕ) (session : SessionData)
    (now then : Open) (current later : MachineOpen) (table chunk : ℕ) (old new : ChunkData)
    → (at : AtChunk setting state parts sessions number session now current table chunk old)
    → KeepsStart now then current later → WentOn setting state at.at_open.shown.shows.core number then later
    → StandsElsewhere setting state number current later table chunk → ChunkIs setting table chunk new
    → ChunkShows setting (gone_on state number later) at.at_open.shown.shows.core (sessions_on sessions number session then) table chunk new
    → Shows setting (gone_on state number later) (slice_set parts (chunk_number setting table chunk) (ChunkPart new))
    (sessions_on sessions number session then)

-- a session goes on and no part changes, and all is shown
abbrev pub OwnStepsShow : Type 0
OwnStepsShow =
    (setting : Setting) (state : State) (parts : List Part) (sessions : List SessionData) (number : ℕ) (session : SessionData)
    (now then : Open) (current later : MachineOpen)
    → (at : AtOpen setting state parts sessions number session now current)
    → KeepsStart now then current later → WentOn setting state at.shown.shows.core number then later
    → ((table chunk index : ℕ) → index < setting.rows
    → StandsAsBefore setting state number table chunk (chunk * setting.rows + index) current later)
    → Shows setting (gone_on state number later) parts (sessions_on sessions number session then)

-- a chunk that is pruned by a held cover shows what it showed
abbrev pub PrunedChunksShow : Type 0
PrunedChunksShow =
    (setting : Setting) (state : State) (core : CoreData) (sessions : List SessionData) (session : SessionData) (cover : Cover)
    (table chunk : ℕ) (old between : ChunkData)
    → IsBelowIds core → CoreShows state core sessions → IsHeld core cover
    → ChunkIs setting table chunk old → ChunkShows setting state core sessions table chunk old
    → PrunesFirst session.prunes cover old between
    → ChunkIs setting table chunk between × ChunkShows setting state core sessions table chunk between

-- the chunk that is visited is that chunk, and shows the state
abbrev pub VisitedChunksShow : Type 0
VisitedChunksShow =
    (setting : Setting) (state : State) (parts : List Part) (sessions : List SessionData) (number : ℕ) (session : SessionData)
    (now : Open) (current : MachineOpen) (table chunk : ℕ) (old : ChunkData)
    → (at : AtChunk setting state parts sessions number session now current table chunk old)
    → ChunkIs setting table chunk old × ChunkShows setting state at.at_open.shown.shows.core sessions table chunk old

-- a turn that goes on is taken where what it goes on to is shown
pub record GoingOnIsTaken : Type 0 where
  pub visits : (setting : Setting) (state : State) (parts : List Part) (sessions : List SessionData) (number : ℕ) (session : SessionData)
      (now : Open) (current : MachineOpen) (changes : List Change) (phase : Phase) (writes : List Write) (stage : Phase)
      (part : ℕ) (progress : Progress) (after : SessionData) (new : Part)
      → IsOpen state sessions number session now current → Takes session (visits changes phase) progress after
      → Shows setting (gone_on state number (after_visit writes stage current)) (slice_set parts part new)
      (sessions_on sessions number session (visited_by changes phase now))
      → IsTaken setting state parts sessions number (Visits writes stage) part progress after new
  pub answers : (setting : Setting) (state : State) (parts : List Part) (sessions : List SessionData) (number : ℕ) (session : SessionData)
      (now : Open) (current : MachineOpen) (changes : List Change) (reply : Reply) (took : Option ℕ) (records : List Record) (writes : List Write)
      (part : ℕ) (progress : Progress) (after : SessionData) (new : Part)
      → IsOpen state sessions number session now current → Takes session (answers changes reply took records) progress after
      → Shows setting (gone_on state number (after_answer writes reply took records current)) (slice_set parts part new)
      (sessions_on sessions number session (answered_by changes reply took records now))
      → IsTaken setting state parts sessions number (Answers writes reply took records) part progress after new

-- ---- notes

-- an open transaction that writes a cell
abbrev pub with_own : MachineOpen → Write → MachineOpen
with_own current write = after_visit (write ∷ []) current.phase current

-- an open transaction that notes a change
abbrev pub with_noted : Open → Change → Open
with_noted now change = visited_by (change ∷ []) now.phase now

-- a change that is noted, from what the transaction sees at a position, shows the cell that it writes there
abbrev pub NotesFollowWrites : Type 0
NotesFollowWrites =
    (setting : Setting) (state : State) (now : Open) (current : MachineOpen) (table pos : ℕ) (cell : Cell)
    → OwnFits setting current.begun.own → TrailFits setting current.begun → table < length setting.first → pos < capacity setting
    → NotesShow setting state now current
    → NotesShow setting state
    (with_noted now (record { table = table; pos = pos; before = item_at (view setting state current.begun) table pos; after = cell }))
    (with_own current (record { table = table; pos = pos; cell = cell }))
