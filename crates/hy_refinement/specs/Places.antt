-- What a position of a chunk shows: its marks, what viewers see there, whether it is used, when its row went.
use Rattle.std.specs.Prelude.{◌≡◌, ◌≢◌, ◌⊎◌, ℕ, ◌<◌, ◌≤◌, List, [], ◌∷◌, Bool, true, false, ◌||◌, nat_lt, Option}
use Rattle.std.specs.Prelude.{None, Some, is_some, unwrap_or, Contains, slice_get, take, if◌then◌else◌}
use Rattle.std.specs.List.{list_any}
use Rattle.hy_stamp.specs.declared.Stamp.{Stamp}
use Rattle.hy_stamp.specs.declared.Viewer.{Viewer}
use Rattle.hy_stamp.specs.Times.{id_of}
use Rattle.hy_chain.specs.Chains.{Falls, newest}
use Rattle.hy_undo.specs.Places.{Place, sees, stamps}
use Rattle.hy_undo.specs.Chunks.{is_own}
use Rattle.hy_notes.specs.Notes.{Cell, note_at}
use Rattle.hy_journal.specs.declared.CoreData.{CoreData}
use Rattle.hy_journal.specs.declared.Entry.{Entry}
use Rattle.hy_event.specs.declared.SessionData.{SessionData}
use Rattle.hy_event.specs.declared.Open.{Open}
use Rattle.hy_event.specs.Sessions.{label_of, viewer_of}
use Rattle.hy_machine.specs.declared.Setting.{Setting}
use Rattle.hy_machine.specs.States.{State, Open as MachineOpen}
use Rattle.hy_machine.specs.Tables.{Entry as Entered, opening_tables}
use Rattle.hy_machine.specs.Positions.{item_at, last_some}
use Rattle.hy_machine.specs.Sessions.{snapshot, view}
use Rattle.hy_machine.specs.Holding.{holds, is_held, has_pair}
use Rattle.hy_refinement.specs.Stamped.{HasNotStamped, entries_counted}
use Rattle.hy_refinement.specs.Transactions.{IsOpen, OfOpen}

-- ---- marks

-- a stamp is an open transaction's own
pub record IsOwnStamp (setting : Setting) (state : State) (sessions : List SessionData) (table chunk : ℕ) (stamp : Stamp) : Type 0 where
  pub number : ℕ
  pub session : SessionData
  pub now : Open
  pub current : MachineOpen
  pub is_open : IsOpen state sessions number session now current
  pub not_stamped : HasNotStamped setting state number table chunk
  pub mark_is : stamp.mark ≡ id_of (label_of session)

-- a stamp is that of an entry that wrote the position and counts in the chunk
pub record IsOfWriter (setting : Setting) (state : State) (core : CoreData) (table chunk pos : ℕ) (stamp : Stamp) : Type 0 where
  pub rank : ℕ
  pub entered : Entered
  pub entry : Entry
  pub stands : slice_get state.order rank ≡ Some entered
  pub has : slice_get core.entries rank ≡ Some entry
  pub counts : rank < entries_counted setting state table chunk
  pub wrote : has_pair table pos entered ≡ true
  pub owner : stamp.owner ≡ entered.label
  pub mark_is : stamp.mark ≡ entry.time

-- the newest mark is an open transaction's identifier exactly where it holds the position, and then its owner is it
pub record OwnHead (setting : Setting) (table pos : ℕ) (place : Place) (session : SessionData) (current : MachineOpen) : Type 0 where
  pub holds_it : is_own (id_of (label_of session)) (newest place.chain) ≡ holds setting table pos (Some current)
  pub owner : (stamp : Stamp) → newest place.chain ≡ Some stamp → stamp.mark ≡ id_of (label_of session) → stamp.owner ≡ label_of session

abbrev pub OwnHeads : Setting → State → List SessionData → ℕ → ℕ → ℕ → Place → Type 0
OwnHeads setting state sessions table chunk pos place = OfOpen state sessions (λ number session now current.
    HasNotStamped setting state number table chunk → OwnHead setting table pos place session current)

-- the newest mark is an own one or the time of a writer, and all behind it are times of writers
pub record TimesAreWriters (setting : Setting) (state : State) (core : CoreData) (sessions : List SessionData) (table chunk pos : ℕ)
    (place : Place) : Type 0 where
  pub top : (stamp : Stamp) (rest : List Stamp) → stamps place ≡ stamp ∷ rest
      → IsOwnStamp setting state sessions table chunk stamp ⊎ IsOfWriter setting state core table chunk pos stamp
  pub behind : (stamp : Stamp) (rest : List Stamp) → stamps place ≡ stamp ∷ rest → (other : Stamp) → Contains rest other
      → IsOfWriter setting state core table chunk pos other

-- the newest stamp with a mark below this time
abbrev pub newest_below : ℕ → List Stamp → Option Stamp
newest_below time [] = None
newest_below time (stamp ∷ others) = if nat_lt stamp.mark time then Some stamp else newest_below time others

-- an entry is the last that wrote a position, among those that count in the chunk
pub record IsLastWriter (setting : Setting) (state : State) (table chunk pos rank : ℕ) (entered : Entered) : Type 0 where
  pub stands : slice_get state.order rank ≡ Some entered
  pub counts : rank < entries_counted setting state table chunk
  pub wrote : has_pair table pos entered ≡ true
  pub last : (other : ℕ) (later : Entered) → rank < other → other < entries_counted setting state table chunk
      → slice_get state.order other ≡ Some later → has_pair table pos later ≡ false

-- where the last writer's time is above an open start, the newest time in the chain is it
abbrev pub LastWriterOnTop : Setting → State → CoreData → List SessionData → ℕ → ℕ → ℕ → Place → Type 0
LastWriterOnTop setting state core sessions table chunk pos place =
    (rank : ℕ) (entered : Entered) (entry : Entry) → IsLastWriter setting state table chunk pos rank entered → slice_get core.entries rank ≡ Some entry
    → OfOpen state sessions (λ number session now current. now.start < entry.time
    → newest_below core.next (stamps place) ≡ Some (record { owner = entered.label; mark = entry.time }))

-- ---- what is seen

-- the cell of an open transaction: its own where it holds the position, else that of its start
abbrev pub cell_held : Setting → State → ℕ → ℕ → MachineOpen → Cell
cell_held setting state table pos current =
    if holds setting table pos (Some current)
    then item_at (view setting state current.begun) table pos
    else item_at (snapshot setting state current.begun.prefix) table pos

-- each open transaction sees its cell, if it has not stamped the chunk
abbrev pub ViewerSees : Setting → State → List SessionData → ℕ → ℕ → ℕ → Place → Type 0
ViewerSees setting state sessions table chunk pos place = OfOpen state sessions (λ number session now current.
    HasNotStamped setting state number table chunk → sees (viewer_of session now) place ≡ cell_held setting state table pos current)

-- a viewer who would begin now: its start is the next time, and its identifier no open transaction's
pub record IsNewcomer (state : State) (core : CoreData) (sessions : List SessionData) (viewer : Viewer) : Type 0 where
  pub start : viewer.start ≡ core.next
  pub id : core.next ≤ viewer.id
  pub new : OfOpen state sessions (λ number session now current. id_of (label_of session) ≢ viewer.id)

-- it sees what the entries leave that count in the chunk
abbrev pub NewcomerSees : Setting → State → CoreData → List SessionData → ℕ → ℕ → ℕ → Place → Type 0
NewcomerSees setting state core sessions table chunk pos place =
    (viewer : Viewer) → IsNewcomer state core sessions viewer
    → sees viewer place ≡ item_at (snapshot setting state (entries_counted setting state table chunk)) table pos

-- ---- use and death

-- a position is used: a first row is there, an entry wrote it, or an open transaction holds it
abbrev pub is_used : Setting → State → ℕ → ℕ → Bool
is_used setting state table pos =
    is_some (item_at (opening_tables setting) table pos) || (list_any (has_pair table pos) state.order || is_held setting state table pos)

-- the time of an entry that left a position without a row
abbrev pub time_left : ℕ → Option (Cell × Cell) → Option ℕ
time_left time None = None
time_left time (Some pair) = if is_some pair.1 then None else Some time

abbrev pub emptied_at : ℕ → ℕ → Entry → Option ℕ
emptied_at table pos entry = time_left entry.time (note_at entry.notes table pos)

-- the time of the last entry that left a position without a row, among those that count in the chunk, or 0
abbrev pub death_of : Setting → State → CoreData → ℕ → ℕ → ℕ → ℕ
death_of setting state core table chunk pos =
    unwrap_or (last_some (emptied_at table pos) (take (entries_counted setting state table chunk) core.entries)) 0

-- ---- a position

pub record PlaceShows (setting : Setting) (state : State) (core : CoreData) (sessions : List SessionData) (table chunk pos : ℕ) (place : Place) : Type 0 where
  -- the marks fall from newest to oldest
  pub falls : Falls place.chain
  pub own_heads : OwnHeads setting state sessions table chunk pos place
  pub times_are_writers : TimesAreWriters setting state core sessions table chunk pos place
  pub last_writer_on_top : LastWriterOnTop setting state core sessions table chunk pos place
  pub viewer_sees : ViewerSees setting state sessions table chunk pos place
  pub newcomer_sees : NewcomerSees setting state core sessions table chunk pos place
  pub used_shows : place.used ≡ is_used setting state table pos
  pub death_shows : place.death ≡ death_of setting state core table chunk pos
