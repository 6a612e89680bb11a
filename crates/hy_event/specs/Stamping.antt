-- A visit of a transaction that has its entry: its records in the chunk get the commit time, and then the chunk is pruned.
use Rattle.std.specs.Prelude.{ℕ, suc, []}
use Rattle.hy_stamp.specs.Times.{id_of}
use Rattle.hy_undo.specs.Chunks.{ChunkData, StampedPlace, AtOwn, Everywhere}
use Rattle.hy_event.specs.declared.SessionData.{SessionData}
use Rattle.hy_event.specs.declared.Open.{Open}
use Rattle.hy_protocol.specs.declared.Phase.TheVariants as phase
use Rattle.hy_protocol.specs.declared.Progress.{Progress}
use Rattle.hy_event.specs.Sessions.{label_of}
use Rattle.hy_protocol.specs.Turns.{Visits}
use Rattle.hy_event.specs.Turns.{Takes}
use Rattle.hy_event.specs.Changing.{OnlyPlaces, PrunesFirst}

pub record StampVisit (session : SessionData) (now : Open) (visited : ℕ)
    (old : ChunkData) (progress : Progress) (after : SessionData) (new : ChunkData) : Type 0 where
  pub between : ChunkData
  pub chunk : OnlyPlaces (Everywhere (AtOwn (id_of (label_of session)) (StampedPlace (id_of (label_of session)) now.time))) old between
  pub prunes : PrunesFirst session.prunes now.cover between new
  pub turn : Takes session (Visits [] (phase.Stamping (suc visited))) progress after
