-- Parts that the sessions of a world share: what contracts see of them, what holds of all of them and all sessions between two
-- visits, and what a visit does.
use Rattle.std.specs.Prelude.{◌≡◌, ◌⊎◌, ℕ, ◌+◌, ◌*◌, ◌<◌, List, [], ◌∷◌, ◌++◌, Some, map, slice_get, refl}
use Rattle.std.specs.List.{AllByRecursion}
use Rattle.std.specs.Coded.{Coded, code_by, coded×, coded⊎, coded_list}
use mathlib.Core.Logic.{inl, inr}
use Rattle.hy_value.specs.declared.Kind.{Kind}
use Rattle.hy_value.specs.contracts.Kind as kind
use Rattle.hy_journal.specs.declared.CoreData.{CoreData}
use Rattle.hy_journal.specs.contracts.CoreData as core_data
use Rattle.hy_undo.specs.Chunks.{ChunkData}
use Rattle.hy_chunk.specs.Views.{Whole, data_code}
use Rattle.hy_stamp.specs.declared.Label.{Label}
use Rattle.hy_event.specs.declared.SessionData.{SessionData}
use Rattle.hy_event.specs.declared.Need.{Need}
use Rattle.hy_event.specs.declared.Need.TheVariants.{Core, Chunk}
use Rattle.hy_protocol.specs.declared.Progress.{Progress}
use Rattle.hy_event.specs.CoreTurns.{core_turn}
use Rattle.hy_event.specs.Events.{Part, ChunkPart, CorePart, part_number, NeededVisit}
use Rattle.hy_event.specs.Needs.{need_of}
use Rattle.hy_protocol.specs.Turns.{Waits}
use Rattle.hy_machine.specs.declared.Setting.{Setting}
use Rattle.hy_machine.specs.States.{State}
use Rattle.hy_session.specs.Near.{NearCore, NearChunk}
use Rattle.hy_stepping.specs.Typed.{AreTyped, kinds_of}
use Rattle.hy_stepping.specs.Runnable.{IsShown}
use Rattle.hy_stepping.specs.Steps.{CoresAreNear, NeededChunksAreThere, ChunksAreNear, VisitsAreSteps}

-- a chunk with the types of its columns, or the core
pub data SharedData : Type 0 where
  ChunkOf : List Kind → ChunkData → SharedData
  CoreOf : CoreData → SharedData

abbrev split : SharedData → (List Kind × ChunkData) ⊎ CoreData
split (ChunkOf kinds chunk) = inl (kinds, chunk)
split (CoreOf core) = inr core

abbrev join : (List Kind × ChunkData) ⊎ CoreData → SharedData
join (inl x) = ChunkOf x.0 x.1
join (inr core) = CoreOf core

pub join-split : (part : SharedData) → join (split part) ≡ part
join-split (ChunkOf kinds chunk) = refl
join-split (CoreOf core) = refl

abbrev pub shared_code : Coded SharedData
shared_code =
    code_by ((List Kind × ChunkData) ⊎ CoreData) (coded⊎ (coded× (coded_list kind.the_row.coded) data_code) core_data.the_row.coded) split join join-split

-- a chunk as the sessions share it: without the room that it has
abbrev pub chunk_shared : Whole → SharedData
chunk_shared chunk = ChunkOf chunk.kinds chunk.shown

-- the parts of a world as they are shared, the core last
abbrev pub parts_shared : List Whole → CoreData → List SharedData
parts_shared chunks core = map chunk_shared chunks ++ CoreOf core ∷ []

-- the part without the types of its columns
abbrev pub part_of : SharedData → Part
part_of (ChunkOf kinds chunk) = ChunkPart chunk
part_of (CoreOf core) = CorePart core

abbrev pub IsChunk : SharedData → Type 0
IsChunk (ChunkOf kinds chunk) = Unit {0}
IsChunk (CoreOf core) = ⊥

-- chunks, and the core behind them
pub record AreParts (parts : List SharedData) : Type 0 where
  pub front : List SharedData
  pub core : CoreData
  pub are : parts ≡ front ++ CoreOf core ∷ []
  pub chunks : AllByRecursion IsChunk front

-- ---- what holds of all of them

-- what is known of sessions and parts that show a state of the machine
pub record Laws : Type 0 where
  pub cores_near : CoresAreNear
  pub chunks_there : NeededChunksAreThere
  pub chunks_near : ChunksAreNear
  pub visits_steps : VisitsAreSteps

-- each chunk has the types of its table
abbrev pub HaveSharedTypes : List (List Kind) → ℕ → List SharedData → Type 0
HaveSharedTypes kinds per_table parts =
    (table number : ℕ) (types : List Kind) (chunk : ChunkData) → number < per_table → slice_get parts (table * per_table + number) ≡ Some (ChunkOf types chunk)
    → types ≡ kinds_of kinds table

-- some state is shown that the machine comes to in this setting, whose values are of these types
pub record AreShared (setting : Setting) (kinds : List (List Kind)) (parts : List SharedData) (sessions : List SessionData) : Type 0 where
  pub laws : Laws
  pub typed : AreTyped kinds setting.shapes setting.first setting.programs
  pub types : HaveSharedTypes kinds setting.chunks parts
  pub state : State
  pub shown : IsShown setting state (map part_of parts) sessions

-- ---- what a visit asks and does

-- the part is of the kind that the session needs, and the visit may be made
abbrev pub MayVisit : Need → SessionData → SharedData → Type 0
MayVisit Core session (CoreOf core) = NearCore session core
MayVisit (Chunk table number) session (ChunkOf kinds chunk) =
    (room : ℕ) → NearChunk session (record { shown = chunk; kinds = kinds; room = room })
MayVisit _ session part = ⊥

-- so where the session needs the part of this number
abbrev pub IsNear : ℕ → SessionData → SharedData → Type 0
IsNear number session part = part_number session (need_of session) ≡ Some number → MayVisit (need_of session) session part

-- a part keeps the types of its columns
abbrev pub KeepsTypes : SharedData → SharedData → Type 0
KeepsTypes (ChunkOf kinds chunk) (ChunkOf others new) = others ≡ kinds
KeepsTypes (CoreOf core) (CoreOf new) = Unit {0}
KeepsTypes _ _ = ⊥

-- a session runs over tables of these shapes and so many chunks, and prunes or doesn't
pub record KeepsLayout (session after : SessionData) : Type 0 where
  pub shapes : after.shapes ≡ session.shapes
  pub chunks : after.chunks ≡ session.chunks
  pub prunes : after.prunes ≡ session.prunes

-- a session visits the part of this number, which is the one that it needs
pub record IsVisit (number : ℕ) (session : SessionData) (old : SharedData) (after : SessionData) (new : SharedData) : Type 0 where
  pub progress : Progress
  pub needed : part_number session (need_of session) ≡ Some number
  pub visit : NeededVisit (need_of session) session (part_of old) progress after (part_of new)
  pub types : KeepsTypes old new
  pub layout : KeepsLayout session after

-- it has to wait, since another transaction stands between its entry and its end
abbrev pub HasToWait : SessionData → SharedData → Type 0
HasToWait session (CoreOf core) = (by : Label) × (core_turn session core ≡ Some (Waits by))
HasToWait session (ChunkOf kinds chunk) = ⊥
