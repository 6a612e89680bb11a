-- What a session shows: its ended transactions, and its open one.
use Rattle.std.specs.Prelude.{◌≡◌, ◌≢◌, ◌⊎◌, ℕ, ◌<◌, ◌≤◌, ◌-◌, ◌*◌, List, [], ◌∷◌, ◌++◌, ◌==◌, Option, None, Some}
use Rattle.std.specs.Prelude.{Contains, slice_get, slice_index_or, length, map, filter, take, drop, min, if◌then◌else◌}
use Rattle.hy_bound.specs.declared.Bound.{Bound}
use Rattle.hy_bound.specs.declared.Bound.TheVariants.{Select, Group, Insert, Update, Delete, Savepoint, RollbackTo, Release}
use Rattle.hy_bound.specs.declared.Txn.{Txn}
use Rattle.hy_bound.specs.Changes.{present}
use Rattle.hy_bound.specs.Projection.{projected}
use Rattle.hy_bound.specs.SavedRelations.{AreAlike}
use Rattle.hy_value.specs.declared.change.Change.{Change}
use Rattle.hy_plan.specs.declared.PlanPart.{PlanPart}
use Rattle.hy_plan.specs.Reads.{is_read_of}
use Rattle.hy_meaning.specs.Statement.{Table}
use Rattle.hy_gathered.specs.Answers.{spread_all}
use Rattle.hy_prune.specs.declared.Cover.{Cover}
use Rattle.hy_prune.specs.Fates.{watermark_of}
use Rattle.hy_notes.specs.Notes.{Ascends, note_at}
use Rattle.hy_journal.specs.declared.CoreData.{CoreData}
use Rattle.hy_journal.specs.declared.Entry.{Entry}
use Rattle.hy_event.specs.declared.SessionData.{SessionData}
use Rattle.hy_event.specs.declared.Open.{Open}
use Rattle.hy_event.specs.Sessions.{savepoint_of}
use Rattle.hy_protocol.specs.declared.Phase.TheVariants as phase
use Rattle.hy_event.specs.Gathering.{ReadPlan, select_read_plan, group_read_plan, joined_columns, conditions_by}
use Rattle.hy_machine.specs.declared.Setting.{Setting}
use Rattle.hy_machine.specs.States.{State, Open as MachineOpen}
use Rattle.hy_machine.specs.Positions.{item_at}
use Rattle.hy_machine.specs.Tables.{Tables, Own, over}
use Rattle.hy_machine.specs.Writes.{Write, blank_own, with_writes}
use Rattle.hy_machine.specs.Sessions.{session_at, program_of, txn_at, snapshot, view, pair_of}
use Rattle.hy_machine.specs.Outcomes.{outcomes_from}
use Rattle.hy_refinement.specs.Numbers.{noted}

-- ---- what does not change

-- a session has its number, its transactions, and the columns and sizes of the tables
pub record SessionIs (setting : Setting) (number : ℕ) (session : SessionData) : Type 0 where
  pub number_is : session.number ≡ number
  pub program : session.program ≡ program_of setting number
  pub shapes : session.shapes ≡ setting.shapes
  pub chunks : session.chunks ≡ setting.chunks
  pub rows : session.rows ≡ setting.rows

-- ---- numbers of an open transaction

-- so many of the first entries have a time below this one, and no others
pub record CountsBelow (entries : List Entry) (count bound : ℕ) : Type 0 where
  pub early : (rank : ℕ) (entry : Entry) → slice_get entries rank ≡ Some entry → rank < count → entry.time < bound
  pub late : (rank : ℕ) (entry : Entry) → slice_get entries rank ≡ Some entry → count ≤ rank → bound ≤ entry.time

-- a cover is held: its next time is past, and each open start is in it or at least its next time
pub record IsHeld (core : CoreData) (cover : Cover) : Type 0 where
  pub past : cover.next ≤ core.next
  pub safe : (start : ℕ) → Contains core.active start → Contains cover.starts start ⊎ (cover.next ≤ start)

-- so is that of an open transaction, and its watermark is at most the start
pub record CoverHolds (core : CoreData) (now : Open) : Type 0 where
  pub below : watermark_of now.cover ≤ now.start
  pub held : IsHeld core now.cover

-- ---- what an open transaction has done

-- its prefix, its answered statements, and where it stands
pub record DoneSoFar (now : Open) (current : MachineOpen) : Type 0 where
  pub prefix : now.prefix ≡ current.begun.prefix
  pub replies : now.replies ≡ current.begun.replies
  pub records : now.records ≡ current.begun.records
  pub took : now.took ≡ current.begun.took
  pub phase : now.phase ≡ current.phase

-- notes have at every position the cell of these tables and the one that was written over it
pub record NotesHave (tables : Tables) (own : Own) (notes : List Change) : Type 0 where
  pub each : (table pos : ℕ) → note_at notes table pos ≡ noted (pair_of (item_at tables table pos) (item_at own table pos))
  pub ascends : Ascends notes

-- notes since a savepoint, which was made behind so many writes, have what was seen then, over these tables, and what was
-- written since
abbrev pub SinceHave : Setting → Tables → List Write → List Change → ℕ → Type 0
SinceHave setting tables trail notes count =
    NotesHave (over tables (with_writes (blank_own setting) (take count trail))) (with_writes (blank_own setting) (drop count trail)) notes

-- its notes have what it saw at its start and what it wrote, and so have those since its savepoints
pub record NotesShow (setting : Setting) (state : State) (now : Open) (current : MachineOpen) : Type 0 where
  pub all : NotesHave (snapshot setting state current.begun.prefix) current.begun.own now.notes
  pub saved : AreAlike (SinceHave setting (snapshot setting state current.begun.prefix) current.begun.trail) (map savepoint_of now.saved) current.begun.saved

-- ---- what a SELECT has gathered

-- the rows that a part of a plan takes of the first chunks of its table, behind what was taken of the tables before it
abbrev pub rows_taken : Setting → Tables → List PlanPart → ℕ → List Table → PlanPart → Table
rows_taken setting tables parts chunks before part =
    map (projected part.columns)
    (filter (is_read_of (conditions_by part.pred part.lookup (joined_columns parts (spread_all parts before))))
    (present (take (chunks * setting.rows) (slice_index_or tables part.table []))))

-- so many chunks being left to take of, the rows of each table of the plan that has some of them
abbrev pub tables_taken : Setting → Tables → List PlanPart → ℕ → List Table → List PlanPart → List Table
tables_taken setting tables parts left before [] = before
tables_taken setting tables parts left before (part ∷ others) =
    if left == 0 then before
    else tables_taken setting tables parts (left - setting.chunks)
    (before ++ rows_taken setting tables parts (min left setting.chunks) before part ∷ []) others

-- what is gathered after so many visits
abbrev pub gathered_after : Setting → Tables → ReadPlan → ℕ → List Table
gathered_after setting tables plan visited = tables_taken setting tables plan.parts visited [] plan.parts

-- the gathered rows are those of the visited chunks; none are where no statement is left
abbrev pub GatheredBy : Setting → Tables → ℕ → List Table → Option Bound → Type 0
GatheredBy setting tables visited gathered None = gathered ≡ []
GatheredBy setting tables visited gathered (Some (Select froms ons pred items)) =
    gathered ≡ gathered_after setting tables (select_read_plan setting.shapes froms ons pred items) visited
GatheredBy setting tables visited gathered (Some (Group table pred key aggregate)) =
    gathered ≡ gathered_after setting tables (group_read_plan setting.shapes table pred key aggregate) visited
GatheredBy setting tables visited gathered (Some (Insert table row)) = gathered ≡ []
GatheredBy setting tables visited gathered (Some (Update table sets pred)) = gathered ≡ []
GatheredBy setting tables visited gathered (Some (Delete table pred)) = gathered ≡ []
GatheredBy setting tables visited gathered (Some (Savepoint name)) = gathered ≡ []
GatheredBy setting tables visited gathered (Some (RollbackTo name)) = gathered ≡ []
GatheredBy setting tables visited gathered (Some (Release name)) = gathered ≡ []

-- the present statement of a transaction of a script
abbrev pub statement_at : Option Txn → ℕ → Option Bound
statement_at None answered = None
statement_at (Some txn) answered = slice_get txn.statements answered

-- while a SELECT reads, what is gathered is what its plan takes of the visited chunks, of the rows that the
-- transaction sees
abbrev pub GatheredShows : Setting → State → ℕ → Open → MachineOpen → Type 0
GatheredShows setting state number now current =
    (visited count : ℕ) → now.phase ≡ phase.Working visited count
    → GatheredBy setting (view setting state current.begun) visited now.gathered
    (statement_at (txn_at setting number (session_at state number)) (length now.replies))

-- ---- an open transaction

pub record OpenShows (setting : Setting) (state : State) (core : CoreData) (number : ℕ) (now : Open) (current : MachineOpen) : Type 0 where
  -- the entries of its prefix are those with a time below its start
  pub prefix_counts : CountsBelow core.entries now.prefix now.start
  -- and those of its low prefix are those with a time below its watermark
  pub low_counts : CountsBelow core.entries current.begun.low (watermark_of now.cover)
  pub cover_holds : CoverHolds core now
  pub open_shows : DoneSoFar now current
  -- until its entry has them
  pub notes_show : state.mark ≢ Some number → NotesShow setting state now current
  pub gathered_shows : GatheredShows setting state number now current

-- a transaction is open in the engine where it is in the machine, and shows it
abbrev pub NowShows : Setting → State → CoreData → ℕ → Option Open → Option MachineOpen → Type 0
NowShows setting state core number None None = Unit {0}
NowShows setting state core number None (Some current) = ⊥
NowShows setting state core number (Some now) None = ⊥
NowShows setting state core number (Some now) (Some current) = OpenShows setting state core number now current

pub record SessionShows (setting : Setting) (state : State) (core : CoreData) (number : ℕ) (session : SessionData) : Type 0 where
  pub session_is : SessionIs setting number session
  -- the outcomes of its ended transactions are the machine's
  pub done_shows : session.done ≡ outcomes_from setting number 0 (session_at state number).done
  pub now_shows : NowShows setting state core number session.now (session_at state number).now
