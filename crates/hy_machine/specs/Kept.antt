-- What is taken of the machine alone: it holds of every state that the machine comes to.
use Rattle.std.specs.Prelude.{◌≡◌, ◌≢◌, ◌⊎◌, ℕ, suc, ◌+◌, ◌-◌, ◌*◌, ◌<◌, ◌≤◌, true, false, List, Option, None, Some, is_some, slice_get, length, take}
use Rattle.std.specs.List.{AllByRecursion}
use Rattle.hy_stamp.specs.declared.Label.{Label}
use Rattle.hy_bound.specs.declared.Txn.{Txn}
use Rattle.hy_bound.specs.declared.Bound.{Bound}
use Rattle.hy_bound.specs.declared.Bound.TheVariants.{Select, Group, Insert, Update, Delete, Savepoint, RollbackTo, Release}
use Rattle.hy_value.specs.declared.Value.{Value}
use Rattle.hy_bound.specs.Predicate.{column_of}
use Rattle.hy_bound.specs.Records.{shape_of}
use Rattle.hy_bound.specs.Savepoints.{Saved}
use Rattle.hy_bound.specs.declared.Ending.TheVariants.{Committed}
use Rattle.hy_machine.specs.declared.Setting.{Setting}
use Rattle.hy_protocol.specs.declared.Phase.{Phase}
use Rattle.hy_protocol.specs.declared.Phase.TheVariants.{Working, Stamping, Undoing}
use Rattle.hy_protocol.specs.Turns.{is_stamping}
use Rattle.hy_machine.specs.States.{State, Open, Begun, Finished}
use Rattle.hy_machine.specs.Tables.{Entry, Own, capacity}
use Rattle.hy_machine.specs.Positions.{item_at}
use Rattle.hy_machine.specs.Writes.{blank_own, with_writes, written_chunks}
use Rattle.hy_machine.specs.Sessions.{session_at, program_of, txn_at, label_of, snapshot, pair_of}
use Rattle.hy_machine.specs.Holding.{holds, has_pair}
use Rattle.hy_machine.specs.Visits.{checks_of}
use Rattle.hy_machine.specs.Begun.{count_begun}

-- ---- transactions that have begun

-- a session's open transaction is this one
abbrev pub IsNow : State → ℕ → Open → Type 0
IsNow state number current = (session_at state number).now ≡ Some current

-- the transaction with so many before it in its session is this one, and has ended
abbrev pub IsEnded : State → ℕ → ℕ → Finished → Type 0
IsEnded state number before finished = slice_get (session_at state number).done before ≡ Some finished

-- a transaction is open, or is the one of the entry of this rank, which has ended
pub data IsAtOrOpen (state : State) (rank : ℕ) : Begun → Type 0 where
  ended : (number before : ℕ) (finished : Finished) → IsEnded state number before finished → finished.ending ≡ Committed rank
      → IsAtOrOpen state rank finished.begun
  at_work : (number : ℕ) (current : Open) → IsNow state number current → IsAtOrOpen state rank current.begun

-- ---- the sentences

-- what a transaction wrote has a cell for each position of each table
pub record OwnFits (setting : Setting) (own : Own) : Type 0 where
  pub tables : length own ≡ length setting.first
  pub positions : AllByRecursion (λ cells. length cells ≡ capacity setting) own

-- what a transaction wrote is what its writes come to, one after another, and each savepoint was made behind some of them
pub record TrailFits (setting : Setting) (begun : Begun) : Type 0 where
  pub own_is : begun.own ≡ with_writes (blank_own setting) begun.trail
  pub within : AllByRecursion (λ (one : Saved ℕ). one.was ≤ length begun.trail) begun.saved

-- how many visits a statement has, if it is answered by none before the last: an INSERT into a table that has a key checks
-- each chunk for it, and then looks for a free position; a ROLLBACK TO is answered
-- after the chunks that it takes back
abbrev pub visits_in : Setting → Bound → ℕ
visits_in setting (Select tables ons pred items) = setting.chunks * length tables
visits_in setting (Group table pred key aggregate) = setting.chunks
visits_in setting (Insert table row) = checks_of setting (shape_of setting.shapes table).key + setting.chunks
visits_in setting (Update table sets pred) = setting.chunks
visits_in setting (Delete table pred) = setting.chunks
visits_in setting (Savepoint name) = 1
visits_in setting (RollbackTo name) = suc (setting.chunks * length setting.first)
visits_in setting (Release name) = 1

-- a transaction at work has answered at most its statements; of the present one no visit is done, or some but not all
pub record WorkFits (setting : Setting) (txn : Txn) (begun : Begun) (visited : ℕ) : Type 0 where
  pub answered : length begun.replies ≤ length txn.statements
  pub visits : (statement : Bound) → slice_get txn.statements (length begun.replies) ≡ Some statement
      → (visited ≡ 0) ⊎ (visited < visits_in setting statement)

-- where a transaction stands fits its script
abbrev pub PhaseFits : Setting → Option Txn → Begun → Phase → Type 0
PhaseFits setting None begun phase = ⊥
PhaseFits setting (Some txn) begun (Working visited count) = WorkFits setting txn begun visited
PhaseFits setting (Some txn) begun (Stamping visited) =
    (txn.commits ≡ true) × ((length begun.replies ≡ length txn.statements) × (visited ≤ length (written_chunks setting begun.own)))
PhaseFits setting (Some txn) begun (Undoing visited cause) = visited ≤ length (written_chunks setting begun.own)

pub record OpenFits (setting : Setting) (state : State) (number : ℕ) (current : Open) : Type 0 where
  pub own : OwnFits setting current.begun.own
  pub trail : TrailFits setting current.begun
  pub took : length current.begun.took ≡ length current.begun.replies
  pub phase : PhaseFits setting (txn_at setting number (session_at state number)) current.begun current.phase

-- a session has ended at most the transactions of its script, and an open one is of its script and stands where that lets it
pub record Fits (setting : Setting) (state : State) : Type 0 where
  pub count : length state.sessions ≡ length setting.programs
  pub shapes : length setting.first ≡ length setting.shapes
  pub within : (number : ℕ) → length (session_at state number).done ≤ length (program_of setting number)
  pub opens : (number : ℕ) (current : Open) → IsNow state number current → OpenFits setting state number current

-- a watermark is at most its start, a start is at most the commit, and an open one's at most all entries
pub record Starts (state : State) : Type 0 where
  pub opens : (number : ℕ) (current : Open) → IsNow state number current
      → (current.begun.low ≤ current.begun.prefix) × (current.begun.prefix ≤ length state.order)
  pub ended : (number before : ℕ) (finished : Finished) (rank : ℕ) → IsEnded state number before finished → finished.ending ≡ Committed rank
      → (finished.begun.low ≤ finished.begun.prefix) × (finished.begun.prefix ≤ rank)

-- the watermarks of open transactions, and of those that committed since an open one began, are at most its start
abbrev pub LowsLieLow : State → Type 0
LowsLieLow state = (number : ℕ) (current : Open) → IsNow state number current → (rank : ℕ) → current.begun.prefix ≤ rank
    → (begun : Begun) → IsAtOrOpen state rank begun → begun.low ≤ current.begun.prefix

-- the transaction of an entry: it has ended with a commit of this rank, or it is the marked session's and the entry is
-- the last
pub data IsRanked (state : State) (rank : ℕ) (label : Label) : Begun → Type 0 where
  committed : (before : ℕ) (finished : Finished) → label.txn ≡ suc before → IsEnded state label.session before finished → finished.ending ≡ Committed rank
      → IsRanked state rank label finished.begun
  entered : (current : Open) → state.mark ≡ Some label.session → label ≡ label_of label.session (session_at state label.session)
      → IsNow state label.session current → suc rank ≡ length state.order → IsRanked state rank label current.begun

-- each entry is of a transaction that committed at its rank, or of the marked one
pub record Ranks (state : State) : Type 0 where
  pub each : (rank : ℕ) (entry : Entry) → slice_get state.order rank ≡ Some entry → (begun : Begun) × IsRanked state rank entry.label begun
  pub marked : (number : ℕ) → state.mark ≡ Some number → (current : Open) × ((IsNow state number current) × (is_stamping current.phase ≡ true))
  pub stamping : (number : ℕ) (current : Open) → IsNow state number current → is_stamping current.phase ≡ true → state.mark ≡ Some number
  pub last : (number : ℕ) → state.mark ≡ Some number
      → (entry : Entry) × ((slice_get state.order (length state.order - 1) ≡ Some entry) × (entry.label ≡ label_of number (session_at state number)))

-- while a session is marked, every open transaction began before the last entry
abbrev pub NoneBeganSince : State → Type 0
NoneBeganSince state = (marked : ℕ) → state.mark ≡ Some marked → (number : ℕ) (current : Open) → IsNow state number current
    → current.begun.prefix < length state.order

-- an entry has what its transaction wrote, over the cells of its rank
abbrev pub EntriesAre : Setting → State → Type 0
EntriesAre setting state = (rank : ℕ) (entry : Entry) (begun : Begun) → slice_get state.order rank ≡ Some entry → IsRanked state rank entry.label begun
    → (table pos : ℕ) → item_at entry.cells table pos ≡ pair_of (item_at (snapshot setting state rank) table pos) (item_at begun.own table pos)

-- no entry wrote a position of a transaction since its start: until its own entry, or, at what it holds, until now
pub record PositionsAreOwn (setting : Setting) (state : State) : Type 0 where
  pub committed : (rank other : ℕ) (entry earlier : Entry) (begun : Begun) → slice_get state.order rank ≡ Some entry → IsRanked state rank entry.label begun
      → begun.prefix ≤ other → other < rank → slice_get state.order other ≡ Some earlier
      → (table pos : ℕ) → is_some (item_at begun.own table pos) ≡ true → has_pair table pos earlier ≡ false
  pub held : (number : ℕ) (current : Open) → IsNow state number current → state.mark ≢ Some number
      → (other : ℕ) (entry : Entry) → current.begun.prefix ≤ other → slice_get state.order other ≡ Some entry
      → (table pos : ℕ) → holds setting table pos (Some current) ≡ true → has_pair table pos entry ≡ false

-- no position is held by two sessions
abbrev pub HoldersApart : Setting → State → Type 0
HoldersApart setting state = (number other : ℕ) → number ≢ other → (table pos : ℕ)
    → holds setting table pos (session_at state number).now ≡ true → holds setting table pos (session_at state other).now ≡ true → ⊥

-- where a transaction wrote a position that had no row at its start, it had none since its watermark
abbrev pub BornEmpty : Setting → State → Type 0
BornEmpty setting state = (rank : ℕ) (begun : Begun) → IsAtOrOpen state rank begun → (table pos : ℕ) → is_some (item_at begun.own table pos) ≡ true
    → item_at (snapshot setting state begun.prefix) table pos ≡ None
    → (at : ℕ) → begun.low ≤ at → at ≤ begun.prefix → item_at (snapshot setting state at) table pos ≡ None

-- where an open transaction has written a row at a position that had a row at its start, the two have the same key; so it was when it
-- had written less
abbrev pub KeysStay : Setting → State → Type 0
KeysStay setting state = (number : ℕ) (current : Open) → IsNow state number current → (count table pos column : ℕ) (row new : List Value)
    → (shape_of setting.shapes table).key ≡ Some column → item_at (snapshot setting state current.begun.prefix) table pos ≡ Some row
    → item_at (with_writes (blank_own setting) (take count current.begun.trail)) table pos ≡ Some (Some new)
    → column_of new column ≡ column_of row column

-- ---- what is kept

pub record Kept (setting : Setting) (state : State) : Type 0 where
  pub fits : Fits setting state
  pub starts : Starts state
  pub lows_lie_low : LowsLieLow state
  pub ranks : Ranks state
  pub none_began_since : NoneBeganSince state
  pub entries_are : EntriesAre setting state
  pub positions_are_own : PositionsAreOwn setting state
  pub holders_apart : HoldersApart setting state
  pub born_empty : BornEmpty setting state
  -- no more transactions have come into the commit order than have begun
  pub few : length state.order ≤ count_begun state
