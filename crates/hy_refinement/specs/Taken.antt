-- What it is that the machine takes a turn for a visit of the engine.
use Rattle.std.specs.Prelude.{◌≡◌, ℕ, ◌+◌, ◌*◌, List, Option, slice_set, length}
use Rattle.hy_bound.specs.declared.Bound.{Bound}
use Rattle.hy_undo.specs.Chunks.{ChunkData}
use Rattle.hy_event.specs.declared.SessionData.{SessionData}
use Rattle.hy_event.specs.declared.Open.{Open}
use Rattle.hy_protocol.specs.declared.Phase.TheVariants as phase
use Rattle.hy_protocol.specs.declared.Progress.{Progress}
use Rattle.hy_event.specs.Events.{Part}
use Rattle.hy_machine.specs.Writes.{Write}
use Rattle.hy_machine.specs.declared.Setting.{Setting}
use Rattle.hy_machine.specs.States.{State, Open as MachineOpen}
use Rattle.hy_protocol.specs.Turns.{Turn}
use Rattle.hy_machine.specs.Sessions.{session_at, txn_at}
use Rattle.hy_machine.specs.Steps.{after_turn}
use Rattle.hy_refinement.specs.Transactions.{IsOpen}
use Rattle.hy_refinement.specs.Sessions.{statement_at}
use Rattle.hy_refinement.specs.Parts.{IsChunkPart}
use Rattle.hy_refinement.specs.Shows.{Shows}
use Rattle.hy_refinement.specs.Pruned.{IsBelowIds}
use Rattle.hy_refinement.specs.Labels.{HaveLabels}
use Rattle.hy_machine.specs.Kept.{Kept}

-- ---- before a visit

-- the parts and the sessions show a state that is kept
pub record ShownState (setting : Setting) (state : State) (parts : List Part) (sessions : List SessionData) : Type 0 where
  pub kept : Kept setting state
  pub shows : Shows setting state parts sessions
  pub below_ids : IsBelowIds shows.core
  pub labels : HaveLabels state sessions

-- a session with an open transaction
pub record AtOpen (setting : Setting) (state : State) (parts : List Part) (sessions : List SessionData) (number : ℕ)
    (session : SessionData) (now : Open) (current : MachineOpen) : Type 0 where
  pub shown : ShownState setting state parts sessions
  pub is_open : IsOpen state sessions number session now current

-- and a chunk that it visits
pub record AtChunk (setting : Setting) (state : State) (parts : List Part) (sessions : List SessionData) (number : ℕ)
    (session : SessionData) (now : Open) (current : MachineOpen) (table chunk : ℕ) (old : ChunkData) : Type 0 where
  pub at_open : AtOpen setting state parts sessions number session now current
  pub is_part : IsChunkPart setting parts table chunk old

-- its transaction stands at this statement, of which so many visits are done, or none is left and it is `None`
pub record AtStatement (setting : Setting) (state : State) (number : ℕ) (now : Open) (visited count : ℕ) (statement : Option Bound) : Type 0 where
  pub phase_is : now.phase ≡ phase.Working visited count
  pub statement_is : statement_at (txn_at setting number (session_at state number)) (length now.replies) ≡ statement

-- the number of a chunk among the parts
abbrev pub chunk_number : Setting → ℕ → ℕ → ℕ
chunk_number setting table chunk = table * setting.chunks + chunk

-- the number of the core
abbrev pub core_number : Setting → ℕ
core_number setting = length setting.shapes * setting.chunks

-- ---- after it

-- the machine's turn has the visit's answer, and the parts and sessions after the visit show the state after the turn
pub record IsTaken (setting : Setting) (state : State) (parts : List Part) (sessions : List SessionData) (number : ℕ) (turn : Turn Write)
    (part : ℕ) (progress : Progress) (after : SessionData) (new : Part) : Type 0 where
  pub answer : (after_turn setting state number turn).1 ≡ progress
  pub shows : Shows setting (after_turn setting state number turn).0 (slice_set parts part new) (slice_set sessions number after)
