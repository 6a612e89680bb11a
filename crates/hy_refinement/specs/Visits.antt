-- A visit of a chunk is the machine's turn: for each kind of visit.
use Rattle.std.specs.Prelude.{◌≡◌, ℕ, ◌/◌, ◌%◌, suc, List, [], false, Option, None, Some, slice_get, slice_index_or, length, map}
use Rattle.hy_value.specs.declared.Value.{Value}
use Rattle.hy_bound.specs.declared.Aggregate.{Aggregate}
use Rattle.hy_bound.specs.declared.Assign.{Assign}
use Rattle.hy_bound.specs.declared.Bound.{Bound}
use Rattle.hy_bound.specs.declared.Bound.TheVariants.{Select, Group, Insert, Update, Delete, RollbackTo}
use Rattle.hy_bound.specs.declared.Items.{Items}
use Rattle.hy_bound.specs.declared.On.{On}
use Rattle.hy_bound.specs.Condition.{Condition}
use Rattle.hy_bound.specs.Records.{shape_of}
use Rattle.hy_bound.specs.Agreement.{FitTable, FitTables, HaveTheirKeys}
use Rattle.hy_meaning.specs.Statement.{answer_of, grouped}
use Rattle.hy_undo.specs.Chunks.{ChunkData}
use Rattle.hy_event.specs.declared.SessionData.{SessionData}
use Rattle.hy_event.specs.declared.Open.{Open}
use Rattle.hy_protocol.specs.declared.Phase.TheVariants as phase
use Rattle.hy_protocol.specs.declared.Progress.{Progress}
use Rattle.hy_event.specs.Gathering.{select_read_plan, group_read_plan}
use Rattle.hy_event.specs.Reading.{ReadVisit}
use Rattle.hy_event.specs.Inserting.{CheckVisit, PlaceVisit}
use Rattle.hy_event.specs.Writing.{WriteVisit}
use Rattle.hy_event.specs.Stamping.{StampVisit}
use Rattle.hy_event.specs.Undoing.{UndoVisit}
use Rattle.hy_event.specs.Backing.{BackVisit}
use Rattle.hy_event.specs.Events.{Part, ChunkPart}
use Rattle.hy_bound.specs.declared.Ending.{Ending}
use Rattle.hy_machine.specs.declared.Setting.{Setting}
use Rattle.hy_machine.specs.States.{State, Open as MachineOpen}
use Rattle.hy_protocol.specs.Turns.{Visits, is_stamping}
use Rattle.hy_machine.specs.Turns.{rows_seen, read_turn, write_turn, check_turn, place_turn}
use Rattle.hy_machine.specs.Writes.{written_chunks}
use Rattle.hy_machine.specs.Saving.{written_since, taken_back}
use Rattle.hy_machine.specs.Sessions.{view}
use Rattle.hy_machine.specs.Holding.{undone}
use Rattle.hy_protocol.specs.Statements.{kind_of}
use Rattle.hy_machine.specs.Visits.{swept, sees_key, free_position}
use Rattle.hy_event.specs.Sessions.{written_chunks as chunks_written, chunks_since}
use Rattle.hy_refinement.specs.Taken.{AtOpen, AtChunk, AtStatement, IsTaken, chunk_number}

-- ---- statements that read

-- a SELECT gathers of the chunk of the table that is its turn; the last visit answers as the machine does
abbrev pub SelectsAreTaken : Type 0
SelectsAreTaken =
    (setting : Setting) (state : State) (parts : List Part) (sessions : List SessionData) (number : ℕ) (session : SessionData)
    (now : Open) (current : MachineOpen) (table chunk : ℕ) (old : ChunkData) (visited count : ℕ) (tables : List ℕ) (ons : List On) (pred : Condition) (items : Items)
    (progress : Progress) (after : SessionData) (new : ChunkData)
    → AtChunk setting state parts sessions number session now current table chunk old
    → AtStatement setting state number now visited count (Some (Select tables ons pred items))
    → table ≡ slice_index_or tables (visited / setting.chunks) 0 → chunk ≡ visited % setting.chunks
    → FitTables setting.shapes tables (map (rows_seen (view setting state current.begun)) tables) → HaveTheirKeys setting.shapes tables
    → ReadVisit session now visited (Select tables ons pred items) (select_read_plan session.shapes tables ons pred items) old progress after new
    → IsTaken setting state parts sessions number
    (read_turn setting current.begun visited (length tables) (Select tables ons pred items)
    (map (rows_seen (view setting state current.begun)) tables)
    (answer_of ons pred items (map (rows_seen (view setting state current.begun)) tables)))
    (chunk_number setting table chunk) progress after (ChunkPart new)

-- so with GROUP BY
abbrev pub GroupsAreTaken : Type 0
GroupsAreTaken =
    (setting : Setting) (state : State) (parts : List Part) (sessions : List SessionData) (number : ℕ) (session : SessionData)
    (now : Open) (current : MachineOpen) (table chunk : ℕ) (old : ChunkData) (visited count : ℕ) (pred : Condition) (key : ℕ) (aggregate : Aggregate)
    (progress : Progress) (after : SessionData) (new : ChunkData)
    → AtChunk setting state parts sessions number session now current table chunk old
    → AtStatement setting state number now visited count (Some (Group table pred key aggregate)) → chunk ≡ visited
    → FitTable (shape_of setting.shapes table) (rows_seen (view setting state current.begun) table)
    → ReadVisit session now visited (Group table pred key aggregate) (group_read_plan session.shapes table pred key aggregate) old progress after new
    → IsTaken setting state parts sessions number
    (read_turn setting current.begun visited 1 (Group table pred key aggregate)
    [] (grouped pred key aggregate (rows_seen (view setting state current.begun) table)))
    (chunk_number setting table chunk) progress after (ChunkPart new)

-- ---- INSERT

-- an INSERT looks for its key
abbrev pub ChecksAreTaken : Type 0
ChecksAreTaken =
    (setting : Setting) (state : State) (parts : List Part) (sessions : List SessionData) (number : ℕ) (session : SessionData)
    (now : Open) (current : MachineOpen) (table chunk : ℕ) (old : ChunkData) (visited count : ℕ) (row : List Value) (key : ℕ)
    (progress : Progress) (after : SessionData) (new : ChunkData)
    → AtChunk setting state parts sessions number session now current table chunk old
    → AtStatement setting state number now visited count (Some (Insert table row)) → chunk ≡ visited
    → CheckVisit session now visited (Insert table row) row (Some key) old progress after new
    → IsTaken setting state parts sessions number
    (check_turn setting current.begun visited (Insert table row) (sees_key setting state current.begun table row (Some key) visited))
    (chunk_number setting table chunk) progress after (ChunkPart new)

-- an INSERT takes a position of the chunk, or finds none
abbrev pub PlacesAreTaken : Type 0
PlacesAreTaken =
    (setting : Setting) (state : State) (parts : List Part) (sessions : List SessionData) (number : ℕ) (session : SessionData)
    (now : Open) (current : MachineOpen) (table chunk : ℕ) (old : ChunkData) (visited count : ℕ) (row : List Value)
    (progress : Progress) (after : SessionData) (new : ChunkData)
    → AtChunk setting state parts sessions number session now current table chunk old
    → AtStatement setting state number now visited count (Some (Insert table row))
    → PlaceVisit session now visited chunk (Insert table row) table row old progress after new
    → IsTaken setting state parts sessions number
    (place_turn setting current.begun visited chunk (Insert table row) table row (free_position setting state current.begun table chunk))
    (chunk_number setting table chunk) progress after (ChunkPart new)

-- ---- UPDATE and DELETE

-- an UPDATE by its sets, or a DELETE
abbrev pub statement_by : ℕ → Option (List Assign) → Condition → Bound
statement_by table None pred = Delete table pred
statement_by table (Some sets) pred = Update table sets pred

-- an UPDATE or a DELETE writes the positions that the machine writes, or is refused as there
abbrev pub WritesAreTaken : Type 0
WritesAreTaken =
    (setting : Setting) (state : State) (parts : List Part) (sessions : List SessionData) (number : ℕ) (session : SessionData)
    (now : Open) (current : MachineOpen) (table chunk : ℕ) (old : ChunkData) (visited count : ℕ) (sets : Option (List Assign)) (pred : Condition)
    (progress : Progress) (after : SessionData) (new : ChunkData)
    → AtChunk setting state parts sessions number session now current table chunk old
    → AtStatement setting state number now visited count (Some (statement_by table sets pred)) → chunk ≡ visited
    → WriteVisit session now visited count (statement_by table sets pred) table sets pred old progress after new
    → IsTaken setting state parts sessions number
    (write_turn setting current.begun visited count (statement_by table sets pred) (kind_of sets)
    (swept setting state number current.begun (kind_of sets) pred table visited))
    (chunk_number setting table chunk) progress after (ChunkPart new)

-- ---- stamps and undo visits

-- a chunk that was written is stamped
abbrev pub StampsAreTaken : Type 0
StampsAreTaken =
    (setting : Setting) (state : State) (parts : List Part) (sessions : List SessionData) (number : ℕ) (session : SessionData)
    (now : Open) (current : MachineOpen) (table chunk : ℕ) (old : ChunkData) (visited : ℕ)
    (progress : Progress) (after : SessionData) (new : ChunkData)
    → AtChunk setting state parts sessions number session now current table chunk old
    → now.phase ≡ phase.Stamping visited
    → slice_get (written_chunks setting current.begun.own) visited ≡ Some (table, chunk)
    → StampVisit session now visited old progress after new
    → IsTaken setting state parts sessions number
    (Visits [] (phase.Stamping (suc visited)))
    (chunk_number setting table chunk) progress after (ChunkPart new)

-- a chunk that was written is undone, where so many before it are
abbrev pub UndosAreTaken : Type 0
UndosAreTaken =
    (setting : Setting) (state : State) (parts : List Part) (sessions : List SessionData) (number : ℕ) (session : SessionData)
    (now : Open) (current : MachineOpen) (table chunk : ℕ) (old : ChunkData) (visited : ℕ) (cause : Ending)
    (progress : Progress) (after : SessionData) (new : ChunkData)
    → AtChunk setting state parts sessions number session now current table chunk old
    → is_stamping current.phase ≡ false → undone current.phase ≡ visited
    → slice_get (written_chunks setting current.begun.own) visited ≡ Some (table, chunk)
    → UndoVisit session now visited cause old progress after new
    → IsTaken setting state parts sessions number
    (Visits [] (phase.Undoing (suc visited) cause))
    (chunk_number setting table chunk) progress after (ChunkPart new)

-- a transaction goes back in the chunk that is its turn
abbrev pub BacksAreTaken : Type 0
BacksAreTaken =
    (setting : Setting) (state : State) (parts : List Part) (sessions : List SessionData) (number : ℕ) (session : SessionData)
    (now : Open) (current : MachineOpen) (table chunk : ℕ) (old : ChunkData) (visited count : ℕ) (name : List ℕ)
    (progress : Progress) (after : SessionData) (new : ChunkData)
    → AtChunk setting state parts sessions number session now current table chunk old
    → AtStatement setting state number now visited count (Some (RollbackTo name))
    → slice_get (written_since setting current.begun name) visited ≡ Some (table, chunk)
    → BackVisit session now visited name old progress after new
    → IsTaken setting state parts sessions number
    (Visits (taken_back setting state current.begun name table chunk) (phase.Working (suc visited) 0))
    (chunk_number setting table chunk) progress after (ChunkPart new)

-- ---- which chunks

-- an open transaction wrote in the same chunks as the machine's
abbrev pub WrittenChunksAreTheMachines : Type 0
WrittenChunksAreTheMachines =
    (setting : Setting) (state : State) (parts : List Part) (sessions : List SessionData) (number : ℕ) (session : SessionData)
    (now : Open) (current : MachineOpen)
    → AtOpen setting state parts sessions number session now current
    → chunks_written session now ≡ written_chunks setting current.begun.own

-- and since its newest savepoint of a name
abbrev pub ChunksSinceAreTheMachines : Type 0
ChunksSinceAreTheMachines =
    (setting : Setting) (state : State) (parts : List Part) (sessions : List SessionData) (number : ℕ) (session : SessionData)
    (now : Open) (current : MachineOpen) (name : List ℕ)
    → AtOpen setting state parts sessions number session now current → is_stamping current.phase ≡ false
    → chunks_since session now name ≡ written_since setting current.begun name
