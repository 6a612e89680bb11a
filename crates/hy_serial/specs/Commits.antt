-- Transactions that committed although each began before the other's commit: what they cannot have done to each other.
use Rattle.std.specs.Prelude.{◌≡◌, ◌≢◌, ℕ, ◌<◌, ◌≤◌, List, Bool, Some, is_some, IsTrue, slice_get}
use Rattle.std.specs.List.{list_any}
use Rattle.hy_value.specs.declared.change.Change.{Change}
use Rattle.hy_bound.specs.declared.Ending.TheVariants.{Committed}
use Rattle.hy_render.specs.declared.TxnOutcome.{TxnOutcome}
use Rattle.hy_render.specs.declared.Committed.{Committed as Entry}
use Rattle.hy_render.specs.declared.Outcome.{Outcome}
use Rattle.hy_machine.specs.declared.Setting.{Setting}
use Rattle.hy_machine.specs.Validation.{record_hit}
use Rattle.hy_lawful.specs.Outcomes.{outcome_at}
use Rattle.hy_lawful.specs.Positions.{places_of}
use Rattle.hy_lawful.specs.Passing.{has_place}
use Rattle.hy_lawful.specs.Databases.{logged_by}
use Rattle.hy_lawful.specs.Lawful.{Lawful}
use Rattle.hy_lawful.specs.Serial.{IsSerial}

-- ---- commits

-- a transaction that committed: what is printed of it, its rank, and its entry
pub record Commit : Type 0 where
  pub txn : TxnOutcome
  pub rank : ℕ
  pub entry : Entry

-- it is one of an outcome's
pub record IsCommitOf (outcome : Outcome) (commit : Commit) : Type 0 where
  pub printed : outcome_at outcome commit.txn.label ≡ Some commit.txn
  pub ended : commit.txn.ending ≡ Committed commit.rank
  pub entered : slice_get outcome.order commit.rank ≡ Some commit.entry

-- two of an outcome's that are not one, and each of which began before the other committed
pub record AreConcurrent (outcome : Outcome) (commit other : Commit) : Type 0 where
  pub committed : IsCommitOf outcome commit
  pub other_committed : IsCommitOf outcome other
  pub apart : commit.rank ≢ other.rank
  pub began : commit.txn.start ≤ other.rank
  pub other_began : other.txn.start ≤ commit.rank

-- ---- what the entry of one does to the other

-- whether a change of an entry hits what a transaction reads, alone from the database of its start on
abbrev pub hits_reads_of : Setting → List Entry → TxnOutcome → Entry → Bool
hits_reads_of setting order txn entry =
    list_any (λ (change : Change). is_some (record_hit (logged_by setting order txn) change.table change.before change.after)) entry.changes

-- whether an entry changes a position
abbrev pub changes_at : Entry → ℕ → ℕ → Bool
changes_at entry table pos = has_place (places_of entry.changes) table pos

-- ---- the laws

-- one that read what another wrote over, and began before this other committed, stands before it in the commit order
abbrev pub ReadersStandBeforeWriters : Type 0
ReadersStandBeforeWriters = (setting : Setting) (outcome : Outcome) → Lawful setting outcome → IsSerial setting outcome
    → (reader writer : Commit) → IsCommitOf outcome reader → IsCommitOf outcome writer → reader.rank ≢ writer.rank
    → reader.txn.start ≤ writer.rank → IsTrue (hits_reads_of setting outcome.order reader.txn writer.entry) → reader.rank < writer.rank

-- so two concurrent transactions of which each read what the other wrote over do not both commit
abbrev pub WriteSkewsDoNotCommit : Type 0
WriteSkewsDoNotCommit = (setting : Setting) (outcome : Outcome) → Lawful setting outcome → IsSerial setting outcome
    → (commit other : Commit) → AreConcurrent outcome commit other
    → IsTrue (hits_reads_of setting outcome.order commit.txn other.entry)
    → IsTrue (hits_reads_of setting outcome.order other.txn commit.entry) → ⊥

-- nor do two concurrent transactions that change one position
abbrev pub LostUpdatesDoNotCommit : Type 0
LostUpdatesDoNotCommit = (setting : Setting) (outcome : Outcome) → Lawful setting outcome → IsSerial setting outcome
    → (commit other : Commit) → AreConcurrent outcome commit other → (table pos : ℕ)
    → IsTrue (changes_at commit.entry table pos) → IsTrue (changes_at other.entry table pos) → ⊥
