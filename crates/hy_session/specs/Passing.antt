-- Going past chunks, one after another, in which a statement neither ends nor changes anything.
use Rattle.std.specs.Prelude.{◌≡◌, ◌≤◌, ◌<◌, ◌≢◌, ℕ, zero, suc, ◌+◌, ◌-◌, List, [], ◌∷◌, Bool, true, false, Option, None, Some, length, slice_get}
use Rattle.std.specs.List.{AllByRecursion}
use Rattle.hy_value.specs.declared.Value.{Value}
use Rattle.hy_bound.specs.Condition.{Condition}
use Rattle.hy_plan.specs.declared.PlanPart.{PlanPart}
use Rattle.hy_visit.specs.declared.reader.Reader.{Reader}
use Rattle.hy_visit.specs.Sparing.{SelectsNone}
use Rattle.hy_bound.specs.declared.Bound.{Bound}
use Rattle.hy_bound.specs.declared.Bound.TheVariants.{Select, Group, Insert, Update, Delete, Savepoint, RollbackTo, Release}
use Rattle.hy_bound.specs.Records.{shape_of}
use Rattle.hy_stamp.specs.declared.Viewer.{Viewer}
use Rattle.hy_prune.specs.declared.Cover.{Cover}
use Rattle.hy_undo.specs.Chunks.{ChunkData}
use Rattle.hy_chunk.specs.Views.{Whole}
use Rattle.hy_visit.specs.Pruning.{AllFall, AllShort}
use Rattle.hy_protocol.specs.declared.Phase.TheVariants.{Working}
use Rattle.hy_protocol.specs.declared.Progress.TheVariants.{Moved}
use Rattle.hy_event.specs.declared.SessionData.{SessionData}
use Rattle.hy_event.specs.declared.Open.{Open}
use Rattle.hy_event.specs.declared.Need.TheVariants.{Chunk}
use Rattle.hy_event.specs.Changing.{PrunesFirst}
use Rattle.hy_event.specs.Events.{ChunkEvent}
use Rattle.hy_event.specs.Inserting.{free_index, sees_key}
use Rattle.hy_event.specs.Needs.{need_of}
use Rattle.hy_session.specs.declared.visitors.Visitor.{Visitor}
use Rattle.hy_session.specs.declared.prepared.Prepared.{Prepared}
use Rattle.hy_session.specs.Short.{LeavesShort}

-- ---- a session

-- what going past a chunk asks of it: in each chain the marks fall
abbrev pub MayBePassed : Whole → Type 0
MayBePassed chunk = AllFall chunk.shown.places

-- a session needs the chunk of this number of the table, and its visit goes on and leaves the chunk as it is
pub record IsPassed (session : SessionData) (table number : ℕ) (chunk : ChunkData) (after : SessionData) : Type 0 where
  pub needed : need_of session ≡ Chunk table number
  pub event : ChunkEvent session chunk Moved after chunk
  pub short : LeavesShort session session.now chunk

-- so with each of these chunks, the first of which has this number
abbrev pub Passes : SessionData → ℕ → ℕ → List Whole → SessionData → Type 0
Passes session table number [] after = after ≡ session
Passes session table number (chunk ∷ chunks) after =
    (next : SessionData) × IsPassed session table number chunk.shown next × Passes next table (suc number) chunks after

-- ---- its open transaction

-- no position of the chunk is free, and there is nothing to prune
pub record IsFull (prunes : Bool) (cover : Cover) (chunk : ChunkData) : Type 0 where
  pub pruned : PrunesFirst prunes cover chunk chunk
  pub full : free_index cover chunk ≡ None
  pub short : prunes ≡ true → AllShort cover chunk.places

-- a visit of an INSERT that looks for this key, or else for a position, goes past the chunk
abbrev pub GoesPast : Option ℕ → Viewer → List Value → Bool → Cover → ChunkData → Type 0
GoesPast (Some key) viewer row prunes cover chunk = sees_key viewer row (Some key) chunk.places ≡ false
GoesPast None viewer row prunes cover chunk = IsFull prunes cover chunk

-- how many visits of an INSERT look for its key
abbrev pub visits_for_key : ℕ → Option ℕ → ℕ
visits_for_key chunks None = 0
visits_for_key chunks (Some key) = chunks

-- So many being done, the next visits look for this key, or else for a position: they are no more than there are chunks left
-- for it, and none of them looks for a position in the last chunk.
abbrev pub AreAlike : ℕ → Option ℕ → ℕ → Option ℕ → ℕ → Type 0
AreAlike chunks key visited (Some sought) left = (key ≡ Some sought) × (visited + left ≤ chunks)
AreAlike chunks key visited None left = (visits_for_key chunks key ≤ visited) × (left ≢ 0 → (visited - visits_for_key chunks key) + left < chunks)

-- an open transaction after so many more visits went past their chunks, where as many rows as before are selected
abbrev pub gone_past : ℕ → ℕ → ℕ → Open → Open
gone_past count visited zero now = now
gone_past count visited (suc more) now = record now { phase = Working (visited + suc more) count }

-- the visits of an INSERT at these chunks go past them
pub record GoneTo (visitor : Visitor) (table : ℕ) (row : List Value) (visited : ℕ) (old : Open) (chunks : List Whole) (new : Open) : Type 0 where
  pub sought : Option ℕ
  pub alike : AreAlike visitor.chunks (shape_of visitor.shapes.now table).key visited sought (length chunks)
  pub past : AllByRecursion
      (λ chunk. GoesPast sought (record { id = visitor.id; start = old.start }) row visitor.prunes old.cover chunk.shown) chunks
  pub moved : new ≡ gone_past 0 visited (length chunks) old

-- ---- the other statements

-- a condition selects no row of the chunk, whoever looks, and there is nothing to prune
pub record IsSpared (prunes : Bool) (cover : Cover) (pred : Condition) (chunk : ChunkData) : Type 0 where
  pub pruned : PrunesFirst prunes cover chunk chunk
  pub none : SelectsNone pred chunk.places
  pub short : prunes ≡ true → AllShort cover chunk.places

-- so many being done, the visits of a statement of one table, with so many chunks, go past these, of which none is the last one
pub record SparedTo (per_table : ℕ) (prunes : Bool) (pred : Condition) (visited count : ℕ) (old : Open) (chunks : List Whole) (new : Open) : Type 0 where
  pub few : length chunks ≢ 0 → visited + length chunks < per_table
  pub spared : AllByRecursion (λ chunk. IsSpared prunes old.cover pred chunk.shown) chunks
  pub moved : new ≡ gone_past count visited (length chunks) old

-- so do those of a SELECT, of whose first table this is taken: rows that no other table tells, and some visit of it was before
pub record ReadTo (per_table : ℕ) (part : PlanPart) (visited : ℕ) (old : Open) (chunks : List Whole) (new : Open) : Type 0 where
  pub plain : length chunks ≢ 0 → (part.lookup ≡ None) × (0 < length old.gathered)
  pub gone : SparedTo per_table false part.pred visited 0 old chunks new

-- none is passed
pub record GoneNowhere (old : Open) (chunks : List Whole) (new : Open) : Type 0 where
  pub none : chunks ≡ []
  pub same : new ≡ old

-- a SELECT goes past chunks where it is known what is taken of its first table
abbrev pub ReadOn : ℕ → Option PlanPart → ℕ → Open → List Whole → Open → Type 0
ReadOn per_table None visited old chunks new = GoneNowhere old chunks new
ReadOn per_table (Some part) visited old chunks new = ReadTo per_table part visited old chunks new

-- the visits of a statement at these chunks go past them
abbrev pub GoneBy : Visitor → Bound → Option PlanPart → ℕ → ℕ → Open → List Whole → Open → Type 0
GoneBy visitor (Select tables ons pred items) part visited count old chunks new = ReadOn visitor.chunks part visited old chunks new
GoneBy visitor (Group table pred key aggregate) part visited count old chunks new = ReadOn visitor.chunks part visited old chunks new
GoneBy visitor (Insert table row) part visited count old chunks new = GoneTo visitor table row visited old chunks new
GoneBy visitor (Update table sets pred) part visited count old chunks new = SparedTo visitor.chunks visitor.prunes pred visited count old chunks new
GoneBy visitor (Delete table pred) part visited count old chunks new = SparedTo visitor.chunks visitor.prunes pred visited count old chunks new
GoneBy visitor (Savepoint name) part visited count old chunks new = GoneNowhere old chunks new
GoneBy visitor (RollbackTo name) part visited count old chunks new = GoneNowhere old chunks new
GoneBy visitor (Release name) part visited count old chunks new = GoneNowhere old chunks new

-- the plan of a SELECT of this number is kept, and this is taken of its first table
pub record IsFirstPart (prepared : Option Prepared) (txn number : ℕ) (part : PlanPart) : Type 0 where
  pub reader : Reader
  pub kept : prepared ≡ Some (record { txn = txn; statement = number; reader = reader })
  pub first : slice_get reader.parts 0 ≡ Some part
