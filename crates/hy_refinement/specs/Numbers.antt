-- What the core shows: the entries of its journal, its times, its mark.
use Rattle.std.specs.Prelude.{◌≡◌, ℕ, ◌+◌, ◌-◌, ◌<◌, List, Option, None, Some, Contains, slice_get, length}
use Rattle.std.specs.Option.{option_map}
use Rattle.hy_prune.specs.OpenStarts.{Rise}
use Rattle.hy_stamp.specs.declared.Label.{Label}
use Rattle.hy_notes.specs.Notes.{Cell, Ascends, note_at}
use Rattle.hy_journal.specs.declared.CoreData.{CoreData}
use Rattle.hy_journal.specs.declared.Entry.{Entry}
use Rattle.hy_event.specs.declared.SessionData.{SessionData}
use Rattle.hy_event.specs.declared.Open.{Open}
use Rattle.hy_protocol.specs.declared.Phase.TheVariants as phase
use Rattle.hy_machine.specs.States.{State, Open as MachineOpen}
use Rattle.hy_machine.specs.Tables.{Entry as Entered, Pair}
use Rattle.hy_machine.specs.Positions.{item_at}
use Rattle.hy_machine.specs.Writes.{written}
use Rattle.hy_machine.specs.Sessions.{session_at, label_of}
use Rattle.hy_machine.specs.Begun.{count_begun}
use Rattle.hy_refinement.specs.Transactions.{IsOpen, OfOpen}

-- ---- entries

-- a pair as what is noted
abbrev pub noted : Option Pair → Option (Cell × Cell)
noted None = None
noted (Some pair) = Some (pair.before, pair.after)

-- an entry of the journal is one of the commit order: its label, and at every position what it did there
pub record EntryShows (entered : Entered) (entry : Entry) : Type 0 where
  pub label : entry.label ≡ entered.label
  pub notes : (table pos : ℕ) → note_at entry.notes table pos ≡ noted (item_at entered.cells table pos)
  pub ascends : Ascends entry.notes

-- the journal is the commit order
pub record EntriesShow (order : List Entered) (entries : List Entry) : Type 0 where
  pub count : length entries ≡ length order
  pub each : (rank : ℕ) (entered : Entered) (entry : Entry) → slice_get order rank ≡ Some entered → slice_get entries rank ≡ Some entry
      → EntryShows entered entry

-- ---- times

-- commit times are above 0, and rise
pub record TimesRise (entries : List Entry) : Type 0 where
  pub above : (rank : ℕ) (entry : Entry) → slice_get entries rank ≡ Some entry → 0 < entry.time
  pub rise : (rank other : ℕ) (entry later : Entry) → rank < other → slice_get entries rank ≡ Some entry → slice_get entries other ≡ Some later
      → entry.time < later.time

-- a time is given once: commit times and the starts of open transactions are below the next time, and differ; as
-- many times were given as transactions have begun and entries are made
pub record TimesApart (state : State) (core : CoreData) (sessions : List SessionData) : Type 0 where
  pub times : (rank : ℕ) (entry : Entry) → slice_get core.entries rank ≡ Some entry → entry.time < core.next
  pub starts : OfOpen state sessions (λ number session now current. now.start < core.next)
  pub apart : OfOpen state sessions (λ number session now current.
      (rank : ℕ) (entry : Entry) → slice_get core.entries rank ≡ Some entry → entry.time ≡ now.start → ⊥)
  pub one_each : OfOpen state sessions (λ number session now current.
      OfOpen state sessions (λ other another then present. now.start ≡ then.start → number ≡ other))
  pub next : core.next ≡ 1 + count_begun state + length state.order

-- an open transaction has this start
pub record IsStart (state : State) (sessions : List SessionData) (start : ℕ) : Type 0 where
  pub number : ℕ
  pub session : SessionData
  pub now : Open
  pub current : MachineOpen
  pub is_open : IsOpen state sessions number session now current
  pub start_is : now.start ≡ start

-- the core's list rises, and is exactly the starts of the open transactions
pub record ActiveIs (state : State) (core : CoreData) (sessions : List SessionData) : Type 0 where
  pub rises : Rise core.active
  pub has : OfOpen state sessions (λ number session now current. Contains core.active now.start)
  pub only : (start : ℕ) → Contains core.active start → IsStart state sessions start

-- ---- the mark

-- the label of the machine's marked session
abbrev pub marked_label : State → Option Label
marked_label state = option_map (λ marked. label_of marked (session_at state marked)) state.mark

-- a transaction that stands between its entry and its end: its time is that of the last entry, and it has the places
-- that it wrote
pub record StampingShows (core : CoreData) (now : Open) (current : MachineOpen) : Type 0 where
  pub entry : Entry
  pub last : slice_get core.entries (length core.entries - 1) ≡ Some entry
  pub time_is : entry.time ≡ now.time
  pub wrote : now.wrote ≡ written current.begun.own

-- the core's mark is the machine's
pub record MarkShows (state : State) (core : CoreData) (sessions : List SessionData) : Type 0 where
  pub mark : core.mark ≡ marked_label state
  pub stamping : OfOpen state sessions (λ number session now current.
      (visited : ℕ) → now.phase ≡ phase.Stamping visited → StampingShows core now current)

-- ---- the core

pub record CoreShows (state : State) (core : CoreData) (sessions : List SessionData) : Type 0 where
  pub entries_show : EntriesShow state.order core.entries
  pub times_rise : TimesRise core.entries
  pub times_apart : TimesApart state core sessions
  pub active_is : ActiveIs state core sessions
  pub mark_shows : MarkShows state core sessions
