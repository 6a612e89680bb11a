-- A visit of a session where a reached state is shown: it may be made, and it is the machine's step.
use Rattle.std.specs.Prelude.{◌≡◌, ℕ, suc, ◌+◌, ◌*◌, ◌<◌, ◌≤◌, List, [], ◌∷◌, Some, slice_get, slice_set, length}
use Rattle.hy_value.specs.declared.Kind.{Kind}
use Rattle.hy_chunk.specs.Views.{Whole}
use Rattle.hy_event.specs.declared.SessionData.{SessionData}
use Rattle.hy_event.specs.declared.Need.TheVariants.{Core, Chunk, Done}
use Rattle.hy_protocol.specs.declared.Progress.{Progress}
use Rattle.hy_event.specs.Needs.{need_of}
use Rattle.hy_event.specs.Events.{Part, ChunkPart, part_number, NeededVisit}
use Rattle.hy_machine.specs.declared.Setting.{Setting}
use Rattle.hy_machine.specs.States.{State}
use Rattle.hy_protocol.specs.declared.Progress.TheVariants.{Ended}
use Rattle.hy_machine.specs.Steps.{step_of}
use Rattle.hy_session.specs.Near.{NearCore, NearChunk}
use Rattle.hy_session.specs.Passing.{MayBePassed, Passes}
use Rattle.hy_stepping.specs.Bounds.{AreMoves}
use Rattle.hy_stepping.specs.Typed.{AreTyped, kinds_of}
use Rattle.hy_stepping.specs.Runnable.{IsShown}

-- ---- a visit may be made

-- at the core, where a session needs it
abbrev pub CoresAreNear : Type 0
CoresAreNear =
    (setting : Setting) (state : State) (parts : List Part) (sessions : List SessionData) (number : ℕ) (session : SessionData)
    → (shown : IsShown setting state parts sessions) → slice_get sessions number ≡ Some session → need_of session ≡ Core
    → NearCore session shown.shows.core

-- a chunk of the table and of its types is at its place among the parts
pub record IsPartOf (setting : Setting) (kinds : List (List Kind)) (parts : List Part) (table chunk : ℕ) (part : Whole) : Type 0 where
  pub found : slice_get parts (table * setting.chunks + chunk) ≡ Some (ChunkPart part.shown)
  pub types : part.kinds ≡ kinds_of kinds table

-- a chunk that a session needs is there
abbrev pub NeededChunksAreThere : Type 0
NeededChunksAreThere =
    (setting : Setting) (state : State) (parts : List Part) (sessions : List SessionData) (number : ℕ) (session : SessionData) (table chunk : ℕ)
    → IsShown setting state parts sessions → slice_get sessions number ≡ Some session → need_of session ≡ Chunk table chunk
    → (table < length setting.shapes) × (chunk < setting.chunks)

-- and a visit of it may be made
abbrev pub ChunksAreNear : Type 0
ChunksAreNear =
    (setting : Setting) (kinds : List (List Kind)) (state : State) (parts : List Part) (sessions : List SessionData) (number : ℕ) (session : SessionData)
    (table chunk : ℕ) (part : Whole)
    → IsShown setting state parts sessions → AreTyped kinds setting.shapes setting.first setting.programs
    → slice_get sessions number ≡ Some session → need_of session ≡ Chunk table chunk → IsPartOf setting kinds parts table chunk part
    → NearChunk session part

-- ---- and is the machine's step

-- what is shown after a visit is the state after the step, and the visit came to what the step came to
pub record IsStepped (setting : Setting) (state : State) (number part : ℕ) (parts : List Part) (sessions : List SessionData)
    (progress : Progress) (after : SessionData) (new : Part) : Type 0 where
  pub shown : IsShown setting (step_of setting state number).0 (slice_set parts part new) (slice_set sessions number after)
  pub answer : (step_of setting state number).1 ≡ progress

abbrev pub VisitsAreSteps : Type 0
VisitsAreSteps =
    (setting : Setting) (state : State) (parts : List Part) (sessions : List SessionData) (number : ℕ) (session : SessionData)
    (part : ℕ) (old : Part) (progress : Progress) (after : SessionData) (new : Part)
    → IsShown setting state parts sessions → slice_get sessions number ≡ Some session → slice_get parts part ≡ Some old
    → part_number session (need_of session) ≡ Some part → NeededVisit (need_of session) session old progress after new
    → IsStepped setting state number part parts sessions progress after new

-- ---- chunks that a session goes past

-- each chunk of a table may be passed
abbrev pub ChunksMayBePassed : Type 0
ChunksMayBePassed =
    (setting : Setting) (state : State) (parts : List Part) (sessions : List SessionData) (number : ℕ) (chunk : Whole)
    → IsShown setting state parts sessions → number < length setting.shapes * setting.chunks → slice_get parts number ≡ Some (ChunkPart chunk.shown)
    → MayBePassed chunk

-- these chunks are among the parts, one after another from this number on
abbrev pub ArePartsFrom : List Part → ℕ → List Whole → Type 0
ArePartsFrom parts number [] = Unit {0}
ArePartsFrom parts number (chunk ∷ chunks) = (slice_get parts number ≡ Some (ChunkPart chunk.shown)) × ArePartsFrom parts (suc number) chunks

-- what is shown after so many chunks were passed is the state after as many steps, each of which went on
pub record ArePassed (setting : Setting) (state : State) (number count : ℕ) (parts : List Part) (sessions : List SessionData) (after : SessionData)
    : Type 0 where
  pub last : State
  pub moves : AreMoves setting number count state last
  pub shown : IsShown setting last parts (slice_set sessions number after)

abbrev pub PassesAreSteps : Type 0
PassesAreSteps =
    (setting : Setting) (state : State) (parts : List Part) (sessions : List SessionData) (number : ℕ) (session : SessionData)
    (table chunk : ℕ) (chunks : List Whole) (after : SessionData)
    → IsShown setting state parts sessions → slice_get sessions number ≡ Some session → ArePartsFrom parts (table * setting.chunks + chunk) chunks
    → Passes session table chunk chunks after → ArePassed setting state number (length chunks) parts sessions after

-- ---- a session at its end

-- a session whose script is at its end, or that is not there, has ended for the machine too: its step changes nothing
pub record EndedStayAsTheyAre : Type 0 where
  pub done : (setting : Setting) (state : State) (parts : List Part) (sessions : List SessionData) (number : ℕ) (session : SessionData)
      → IsShown setting state parts sessions → slice_get sessions number ≡ Some session → need_of session ≡ Done
      → step_of setting state number ≡ (state, Ended)
  pub away : (setting : Setting) (state : State) (parts : List Part) (sessions : List SessionData) (number : ℕ)
      → IsShown setting state parts sessions → length sessions ≤ number → step_of setting state number ≡ (state, Ended)
