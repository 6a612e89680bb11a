-- What holds of every state that the machine comes to: what its transactions did is what their statements come to over
-- the tables of their start, and what was committed since then is unseen by those that stand in the commit order.
use Rattle.std.specs.Prelude.{◌≡◌, ℕ, suc, ◌<◌, ◌≤◌, List, Some, IfSome, length, take, slice_get}
use Rattle.std.specs.List.{AllByRecursion}
use Rattle.hy_bound.specs.declared.Bound.{Bound}
use Rattle.hy_machine.specs.declared.Setting.{Setting}
use Rattle.hy_machine.specs.States.{State, Begun, Finished}
use Rattle.hy_machine.specs.Tables.{over}
use Rattle.hy_machine.specs.Sessions.{session_at, program_of, snapshot}
use Rattle.hy_machine.specs.Outcomes.{statements_in}
use Rattle.hy_machine.specs.Runs.{IsReached}
use Rattle.hy_replay.specs.Ran.{Ran, ran}
use Rattle.hy_replay.specs.Laws.{DifferUnseen}
use Rattle.hy_replay.specs.BagLaws.{IsPosition}
use Rattle.hy_lawful.specs.Outcomes.{committed_at}
use Rattle.hy_lawful.specs.Refusing.{WasRefused}

-- the answered statements of a transaction, over the tables of its start, come to this: its replies and its records
pub record HasRun (setting : Setting) (state : State) (statements : List Bound) (begun : Begun) (given : Ran) : Type 0 where
  pub came_to : ran setting (snapshot setting state begun.prefix) (take (length begun.replies) statements) begun.took ≡ Some given
  pub replies : given.replies ≡ begun.replies
  pub records : given.records ≡ begun.records
  pub positions : AllByRecursion (IsPosition setting) begun.took
  pub took : length begun.took ≡ length begun.replies

-- the statements of a session's transaction with so many before it
abbrev pub statements_at : Setting → ℕ → ℕ → List Bound
statements_at setting number before = statements_in (slice_get (program_of setting number) before)

-- an ended transaction has run; where it has committed, what it wrote is what its statements come to, and where a
-- statement was refused, it was so over what the transaction saw
pub record EndedHasRun (setting : Setting) (state : State) (number before : ℕ) (finished : Finished) : Type 0 where
  pub given : Ran
  pub has_run : HasRun setting state (statements_at setting number before) finished.begun given
  pub wrote : IfSome (committed_at finished.ending) (λ (rank : ℕ). given.own ≡ finished.begun.own)
  pub refused : WasRefused setting.shapes (over (snapshot setting state finished.begun.prefix) finished.begun.own)
      (over (snapshot setting state finished.begun.prefix) given.own)
      (slice_get (statements_at setting number before) (length finished.begun.replies)) finished.ending

-- all ended transactions have run
abbrev pub AllHaveRun : Setting → State → Type 0
AllHaveRun setting state = (number before : ℕ) (finished : Finished) → slice_get (session_at state number).done before ≡ Some finished
    → EndedHasRun setting state number before finished

-- what a transaction that stands at this rank of the commit order wrote and read is not seen to change by the entries
-- from its start on before it; and its entry lays what it wrote over the tables before it
pub record PassedUnseen (setting : Setting) (state : State) (begun : Begun) (rank : ℕ) : Type 0 where
  pub unseen : (at : ℕ) → begun.prefix ≤ at → at < rank
      → DifferUnseen (snapshot setting state at) (snapshot setting state (suc at)) begun.own begun.records
  pub lays : snapshot setting state (suc rank) ≡ over (snapshot setting state rank) begun.own

-- all that have committed were passed unseen
abbrev pub AllPassedUnseen : Setting → State → Type 0
AllPassedUnseen setting state = (number before : ℕ) (finished : Finished) → slice_get (session_at state number).done before ≡ Some finished
    → IfSome (committed_at finished.ending) (PassedUnseen setting state finished.begun)

-- these hold of every state that the machine comes to; there is to be a chunk, since an INSERT looks for a free position
-- in a first one, and in tables without chunks, which have no positions, would be answered that it took one
abbrev pub ReachedHaveRun : Type 0
ReachedHaveRun = (setting : Setting) (state : State) → 0 < setting.chunks → IsReached setting state → AllHaveRun setting state

abbrev pub ReachedPassUnseen : Type 0
ReachedPassUnseen = (setting : Setting) (state : State) → IsReached setting state → AllPassedUnseen setting state
