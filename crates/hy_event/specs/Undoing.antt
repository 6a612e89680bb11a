-- A visit of a transaction that is undone: what it wrote in the chunk goes.
use Rattle.std.specs.Prelude.{ℕ, suc, []}
use Rattle.hy_bound.specs.declared.Ending.{Ending}
use Rattle.hy_stamp.specs.Times.{id_of}
use Rattle.hy_undo.specs.Chunks.{ChunkData, Undone, AtOwn, Everywhere}
use Rattle.hy_event.specs.declared.SessionData.{SessionData}
use Rattle.hy_event.specs.declared.Open.{Open}
use Rattle.hy_protocol.specs.declared.Phase.TheVariants as phase
use Rattle.hy_protocol.specs.declared.Progress.{Progress}
use Rattle.hy_event.specs.Sessions.{label_of}
use Rattle.hy_protocol.specs.Turns.{Visits}
use Rattle.hy_event.specs.Turns.{Takes}
use Rattle.hy_event.specs.Changing.{OnlyPlaces}

pub record UndoVisit (session : SessionData) (now : Open) (visited : ℕ) (cause : Ending)
    (old : ChunkData) (progress : Progress) (after : SessionData) (new : ChunkData) : Type 0 where
  pub chunk : OnlyPlaces (Everywhere (AtOwn (id_of (label_of session)) (Undone (id_of (label_of session))))) old new
  pub turn : Takes session (Visits [] (phase.Undoing (suc visited) cause)) progress after
