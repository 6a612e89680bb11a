-- Serializability: what every transaction was told is what it is told alone, and the printed changes and refusals are
-- those of such a history.
use Rattle.std.specs.Prelude.{◌≡◌, ℕ, ◌<◌, ◌≤◌, List, IfSome, None, length, take, slice_get}
use Rattle.std.specs.List.{AllByRecursion}
use Rattle.std.specs.Option.{IsSomeAnd}
use Rattle.hy_bound.specs.declared.Reply.{Reply}
use Rattle.hy_render.specs.declared.TxnOutcome.{TxnOutcome}
use Rattle.hy_render.specs.declared.Committed.{Committed as Entry}
use Rattle.hy_render.specs.declared.Outcome.{Outcome}
use Rattle.hy_machine.specs.declared.Setting.{Setting}
use Rattle.hy_lawful.specs.Outcomes.{EachFrom, committed_at}
use Rattle.hy_lawful.specs.Cells.{bags_at, IsChangeAt}
use Rattle.hy_lawful.specs.Databases.{database_at, alone_at, logged_by}
use Rattle.hy_lawful.specs.Passing.{PassesBy, ChangesLieIn}
use Rattle.hy_lawful.specs.Refusing.{IsRefusedBy}
use Rattle.hy_lawful.specs.Written.{ReadersWriteNothing, PlacesWhatItInserts, WritesWhatItPlaces, WritesWhatItSelects}
use Rattle.hy_lawful.specs.Written.{ChangesWhatWasWritten, LeavesWhatFollows}

-- some replies are the first of others
abbrev pub AreFirstOf : List Reply → List Reply → Type 0
AreFirstOf replies others = take (length replies) others ≡ replies

-- the replies of a transaction are the first of those that it gets alone, from the database of its start on
abbrev pub RepliesAreOfStart : Setting → List Entry → TxnOutcome → Type 0
RepliesAreOfStart setting order txn = AreFirstOf txn.replies (alone_at setting order txn.label txn.start).replies

-- alone at its rank of the commit order a transaction gives its replies and does not stop, and the entries from its start
-- on before its rank pass by what it wrote and logged
pub record ReplaysAt (setting : Setting) (order : List Entry) (txn : TxnOutcome) (rank : ℕ) : Type 0 where
  pub gives : (alone_at setting order txn.label rank).replies ≡ txn.replies
  pub runs_on : (alone_at setting order txn.label rank).stop ≡ None
  pub passed : (at : ℕ) → txn.start ≤ at → at < rank → IfSome (slice_get order at) (PassesBy txn.wrote (logged_by setting order txn))

-- an outcome is serializable, in the order that it prints
pub record IsSerial (setting : Setting) (outcome : Outcome) : Type 0 where
  -- the replies of every transaction are those of its start
  pub replies : AllByRecursion (RepliesAreOfStart setting outcome.order) outcome.txns
  -- a committed transaction, replayed at its rank, gives its replies, and what came between passed it by
  pub replays : AllByRecursion (λ (txn : TxnOutcome). IfSome (committed_at txn.ending) (ReplaysAt setting outcome.order txn)) outcome.txns
  -- the final tables are those of the serial run of the whole order
  pub tables : outcome.tables ≡ database_at setting outcome.order (length outcome.order)
  -- at the rank of a committed transaction stands its entry: what this changes the transaction wrote
  pub entries : AllByRecursion
      (λ (txn : TxnOutcome). IfSome (committed_at txn.ending) (λ (rank : ℕ). IsSomeAnd (slice_get outcome.order rank) (ChangesLieIn txn.wrote))) outcome.txns
  -- it changes each position that the transaction wrote where a row stood at its start
  pub changed : AllByRecursion
      (λ (txn : TxnOutcome). IfSome (committed_at txn.ending)
      (λ (rank : ℕ). IsSomeAnd (slice_get outcome.order rank) (ChangesWhatWasWritten setting outcome.order txn))) outcome.txns
  -- a transaction that was refused was so for a cause
  pub refusals : AllByRecursion (λ (txn : TxnOutcome). IsRefusedBy setting outcome txn txn.ending) outcome.txns
  -- every change starts from what stands at its position
  pub changes : EachFrom 0 (λ (rank : ℕ) (entry : Entry). AllByRecursion (IsChangeAt setting outcome.order rank) entry.changes) outcome.order
  -- before and after every entry the rows that stand in the tables are those of the serial run
  pub history : (rank : ℕ) → rank ≤ length outcome.order → bags_at setting outcome.order rank ≡ database_at setting outcome.order rank
  -- a transaction none of whose statements is an INSERT, an UPDATE or a DELETE has written nothing
  pub readers : AllByRecursion (ReadersWriteNothing setting) outcome.txns
  -- a transaction placed as many inserts in each table as were answered `inserted`
  pub inserted : AllByRecursion (PlacesWhatItInserts setting) outcome.txns
  -- as many positions of each table it wrote where no row stood at its start
  pub placed : AllByRecursion (WritesWhatItPlaces setting outcome.order) outcome.txns
  -- where a row stood at the start of a committed transaction, its entry leaves that row as its statements make it
  pub leaves : AllByRecursion
      (λ (txn : TxnOutcome). IfSome (committed_at txn.ending) (λ (rank : ℕ). IsSomeAnd (slice_get outcome.order rank)
      (λ (entry : Entry). AllByRecursion (LeavesWhatFollows setting outcome.order txn) entry.changes))) outcome.txns
  -- of the rows that stood at its start a transaction wrote exactly those that its statements select
  pub wrote : AllByRecursion (WritesWhatItSelects setting outcome.order) outcome.txns
