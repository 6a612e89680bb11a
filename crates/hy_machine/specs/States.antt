-- What a state of the machine is: the commit order, the mark, and where each session stands.
use Rattle.std.specs.Prelude.{ℕ, List, Option}
use Rattle.hy_bound.specs.declared.Record.{Record}
use Rattle.hy_bound.specs.declared.Reply.{Reply}
use Rattle.hy_bound.specs.declared.Ending.{Ending}
use Rattle.hy_bound.specs.Savepoints.{Saved}
use Rattle.hy_protocol.specs.declared.Phase.{Phase}
use Rattle.hy_machine.specs.Tables.{Own, Entry}
use Rattle.hy_machine.specs.Writes.{Write}

-- a transaction that has begun, open or ended: how many entries the commit order had at its BEGIN, since it reads the
-- tables after these; its watermark, the least prefix of the transactions that were open after its BEGIN, its own among
-- them; what it wrote, which undoing leaves as it is, as cells and as a list of writes in their order; its open savepoints,
-- each of which keeps how many writes there were when it was made; of each answered statement the position that it took, if
-- it was an INSERT that took one; the replies to its answered statements, and their records
pub record Begun : Type 0 where
  pub prefix : ℕ
  pub low : ℕ
  pub own : Own
  pub trail : List Write
  pub saved : List (Saved ℕ)
  pub took : List (Option ℕ)
  pub replies : List Reply
  pub records : List Record

-- an open transaction
pub record Open : Type 0 where
  pub begun : Begun
  pub phase : Phase

-- an ended transaction
pub record Finished : Type 0 where
  pub begun : Begun
  pub ending : Ending

-- a session: its transactions that have ended, in order, and the open one if there is one
pub record Session : Type 0 where
  pub done : List Finished
  pub now : Option Open

-- the commit order, the session whose transaction stands between the entry of its commit and its end, and the sessions
-- by number
pub record State : Type 0 where
  pub order : List Entry
  pub mark : Option ℕ
  pub sessions : List Session
