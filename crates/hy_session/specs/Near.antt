-- What a visit asks of a session and the part that it visits.
use Rattle.std.specs.Prelude.{◌≡◌, ℕ, ◌^◌, ◌*◌, ◌<◌, ◌≤◌, List, Option, None, Some, Contains, slice_get, length}
use Rattle.hy_value.specs.declared.Kind.{Kind}
use Rattle.hy_bound.specs.declared.Bound.{Bound}
use Rattle.hy_bound.specs.declared.Bound.TheVariants.{Select, Group, Insert, Update, Delete, Savepoint, RollbackTo, Release}
use Rattle.hy_bound.specs.Records.{shape_of}
use Rattle.hy_stamp.specs.Times.{id_of}
use Rattle.hy_journal.specs.declared.CoreData.{CoreData}
use Rattle.hy_chunk.specs.Sound.{FitsRow}
use Rattle.hy_chunk.specs.Views.{Whole}
use Rattle.hy_chunk.specs.Writes.{FitsSets}
use Rattle.hy_visit.specs.Backing.{MayAllGoBack}
use Rattle.hy_visit.specs.Pruning.{AllFall, AllUnderOwn}
use Rattle.hy_event.specs.declared.SessionData.{SessionData}
use Rattle.hy_event.specs.declared.Open.{Open}
use Rattle.hy_protocol.specs.declared.Phase.TheVariants.{Working, Stamping}
use Rattle.hy_event.specs.declared.Need.TheVariants.{Chunk}
use Rattle.hy_event.specs.Ended.{statements_in}
use Rattle.hy_event.specs.Needs.{need_of}
use Rattle.hy_event.specs.Sessions.{label_of, txn_at, notes_since}

-- ---- the core

-- the start of an open transaction is among these
abbrev pub IsActive : List ℕ → Option Open → Type 0
IsActive active None = Unit {0}
IsActive active (Some now) = Contains active now.start

-- the clock has times left, ranks are of 32 bits, and the start of the session's open transaction is open in the core
pub record NearCore (session : SessionData) (core : CoreData) : Type 0 where
  pub clock : core.next < 2 ^ 63
  pub few : length core.entries < 2 ^ 32
  pub active : IsActive core.active session.now

-- ---- a chunk

-- what a statement writes in a table is of the types of its columns
abbrev pub IsTyped : List Kind → Option ℕ → Bound → Type 0
IsTyped kinds key (Select tables ons pred items) = Unit {0}
IsTyped kinds key (Group table pred grouped aggregate) = Unit {0}
IsTyped kinds key (Insert table row) = FitsRow kinds row
IsTyped kinds key (Update table sets pred) = FitsSets kinds key sets
IsTyped kinds key (Delete table pred) = Unit {0}
IsTyped kinds key (Savepoint name) = Unit {0}
IsTyped kinds key (RollbackTo name) = Unit {0}
IsTyped kinds key (Release name) = Unit {0}

-- of a statement that reads a visit is left, so many being done
abbrev pub HasVisitLeft : ℕ → ℕ → Bound → Type 0
HasVisitLeft chunks visited (Select tables ons pred items) = visited < chunks * length tables
HasVisitLeft chunks visited (Group table pred grouped aggregate) = visited < chunks
HasVisitLeft chunks visited (Insert table row) = Unit {0}
HasVisitLeft chunks visited (Update table sets pred) = Unit {0}
HasVisitLeft chunks visited (Delete table pred) = Unit {0}
HasVisitLeft chunks visited (Savepoint name) = Unit {0}
HasVisitLeft chunks visited (RollbackTo name) = Unit {0}
HasVisitLeft chunks visited (Release name) = Unit {0}

-- the present statement of an open transaction, if one is left
abbrev pub present_statement : SessionData → Open → Option Bound
present_statement session now = slice_get (statements_in (txn_at session)) (length now.replies)

-- its cover is of before its identifier; behind its own records in the chunk all times are below its commit time;
-- its present statement is of the chunk's types, and has a visit left; what it saw when a savepoint was made may be put back
pub record NearOpen (session : SessionData) (now : Open) (chunk : Whole) : Type 0 where
  pub early : now.cover.next ≤ id_of (label_of session)
  pub under : (visited : ℕ) → now.phase ≡ Stamping visited → AllUnderOwn (id_of (label_of session)) now.time chunk.shown.places
  pub typed : (visited count : ℕ) (statement : Bound) → now.phase ≡ Working visited count → present_statement session now ≡ Some statement
      → IsTyped chunk.kinds chunk.shown.key statement
  pub visits : (visited count : ℕ) (statement : Bound) → now.phase ≡ Working visited count → present_statement session now ≡ Some statement
      → HasVisitLeft session.chunks visited statement
  pub back : (visited count : ℕ) (name : List ℕ) → now.phase ≡ Working visited count → present_statement session now ≡ Some (RollbackTo name)
      → MayAllGoBack chunk.kinds chunk.shown.key (id_of (label_of session)) (notes_since now name) chunk.shown

-- the chunk is one that the session needs, of its table's columns, and in each chain the marks fall
pub record NearChunk (session : SessionData) (chunk : Whole) : Type 0 where
  pub number : ℕ
  pub needed : need_of session ≡ Chunk chunk.shown.table number
  pub wide : length chunk.kinds ≡ (shape_of session.shapes chunk.shown.table).width
  pub keyed : chunk.shown.key ≡ (shape_of session.shapes chunk.shown.table).key
  pub falls : AllFall chunk.shown.places
  pub opened : (now : Open) → session.now ≡ Some now → NearOpen session now chunk
