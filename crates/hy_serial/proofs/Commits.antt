-- Of two concurrent transactions that committed, the entry of the first passes by what the second wrote and read.
use Rattle.std.proofs.Common.{◌≡◌, ◌≢◌, ℕ, ◌<◌, ◌≤◌, List, [], ◌∷◌, Option, None, Bool, true, false, refl, sym, ap, subst, inl, inr, ◌⊎◌, arith}
use Rattle.std.specs.Prelude.{is_some, slice_get, IfSome, ◌&&◌, ◌||◌, ◌==◌}
use Rattle.std.specs.List.{AllByRecursion}
use Rattle.std.specs.Option.{IsSomeAnd}
use Rattle.std.proofs.lemmas.Bool.{eqb-true, cases_lt}
use Rattle.hy_value.specs.declared.change.Change.{Change}
use Rattle.hy_bound.specs.declared.Ending.{Ending}
use Rattle.hy_render.specs.declared.TxnOutcome.{TxnOutcome}
use Rattle.hy_render.specs.declared.Committed.{Committed as Entry}
use Rattle.hy_render.specs.declared.Outcome.{Outcome}
use Rattle.hy_machine.specs.declared.Setting.{Setting}
use Rattle.hy_machine.specs.Validation.{record_hit}
use Rattle.hy_lawful.specs.Outcomes.{committed_at}
use Rattle.hy_lawful.specs.Databases.{logged_by}
use Rattle.hy_lawful.specs.Passing.{has_place, PassesBy, ChangesLieIn}
use Rattle.hy_lawful.specs.Positions.{places_of}
use Rattle.hy_lawful.specs.Serial.{IsSerial, ReplaysAt}
use Rattle.hy_serial.specs.Commits.{Commit, IsCommitOf, hits_reads_of, changes_at}
use Rattle.hy_serial.specs.Commits.{ReadersStandBeforeWriters, WriteSkewsDoNotCommit, LostUpdatesDoNotCommit}
use Rattle.hy_serial.proofs.Items.{and_left, and_right, all_so, none_of}
use Rattle.hy_serial.proofs.Outcomes.{printed_so}

-- ---- what is said of a committed transaction

-- where it is said of every transaction, if it committed, at its rank
pub of_commit : (P : TxnOutcome → ℕ → Type 0) (outcome : Outcome)
    → AllByRecursion (λ (txn : TxnOutcome). IfSome (committed_at txn.ending) (P txn)) outcome.txns → (commit : Commit) → IsCommitOf outcome commit
    → P commit.txn commit.rank
of_commit P outcome h commit is =
    subst (λ (ending : Ending). IfSome (committed_at ending) (P commit.txn)) is.ended
    (printed_so (λ (txn : TxnOutcome). IfSome (committed_at txn.ending) (P txn)) outcome h commit.txn.label commit.txn is.printed)

-- an earlier commit's entry passes by a later one that began before it
passes : (setting : Setting) (outcome : Outcome) → IsSerial setting outcome → (earlier later : Commit) → IsCommitOf outcome earlier
    → IsCommitOf outcome later → later.txn.start ≤ earlier.rank → earlier.rank < later.rank
    → PassesBy later.txn.wrote (logged_by setting outcome.order later.txn) earlier.entry
passes setting outcome is_serial earlier later is is_too began before =
    let replays : ReplaysAt setting outcome.order later.txn later.rank =
    of_commit (ReplaysAt setting outcome.order) outcome is_serial.replays later is_too in
    subst (λ (entry : Option Entry). IfSome entry (PassesBy later.txn.wrote (logged_by setting outcome.order later.txn))) is.entered
    (replays.passed earlier.rank began before)

-- the entry of a commit changes only what its transaction wrote
lies_in : (setting : Setting) (outcome : Outcome) → IsSerial setting outcome → (commit : Commit) → IsCommitOf outcome commit
    → ChangesLieIn commit.txn.wrote commit.entry
lies_in setting outcome is_serial commit is =
    subst (λ (entry : Option Entry). IsSomeAnd entry (ChangesLieIn commit.txn.wrote)) is.entered
    (of_commit (λ (txn : TxnOutcome) (rank : ℕ). IsSomeAnd (slice_get outcome.order rank) (ChangesLieIn txn.wrote)) outcome is_serial.entries commit is)

-- ---- reads

misses : (setting : Setting) (outcome : Outcome) (txn : TxnOutcome) (entry : Entry)
    → PassesBy txn.wrote (logged_by setting outcome.order txn) entry → hits_reads_of setting outcome.order txn entry ≡ true → ⊥
misses setting outcome txn entry passing hits =
    let hit : Change → Option ℕ = λ (change : Change).
    record_hit (logged_by setting outcome.order txn) change.table change.before change.after in
    none_of (λ (change : Change). is_some (hit change)) entry.changes
    (all_so (λ (change : Change). hit change ≡ None) (λ (change : Change). is_some (hit change) ≡ false) entry.changes
    (λ change e. ap (λ (found : Option ℕ). is_some found) e) passing.missed) hits

-- which of two ranks comes first
first_or : (rank other : ℕ) → rank ≢ other → (rank < other) ⊎ (other < rank)
first_or rank other apart = elim (cases_lt rank other) [ inl h ↦ inl h | inr h ↦ inr (omega (arith, apart, h)) ]

pub readers_first : ReadersStandBeforeWriters
readers_first setting outcome lawful is_serial reader writer is is_too apart began hits =
    elim (first_or reader.rank writer.rank apart) [
      | inl before ↦ before
      | inr behind ↦ absurd (misses setting outcome reader.txn writer.entry
          (passes setting outcome is_serial writer reader is_too is began behind) hits)
    ]

pub no_skews : WriteSkewsDoNotCommit
no_skews setting outcome lawful is_serial commit other both hits hits_too =
    let first : commit.rank < other.rank =
    readers_first setting outcome lawful is_serial commit other both.committed both.other_committed both.apart both.began hits in
    let second : other.rank < commit.rank =
    readers_first setting outcome lawful is_serial other commit both.other_committed both.committed (λ e. both.apart (sym e)) both.other_began hits_too in
    absurd (omega (arith, first, second))

-- ---- writes

here_or_later : (Q : ℕ → ℕ → Type 0) (change : Change) → Q change.table change.pos → (table pos : ℕ) (others : Bool) → (others ≡ true → Q table pos)
    → (b : Bool) → (change.table == table && change.pos == pos) ≡ b → (b || others) ≡ true → Q table pos
here_or_later Q change q table pos others later true same e =
    subst (λ (at : ℕ). Q table at) (eqb-true change.pos pos (and_right (change.table == table) (change.pos == pos) same))
    (subst (λ (of : ℕ). Q of change.pos) (eqb-true change.table table (and_left (change.table == table) (change.pos == pos) same)) q)
here_or_later Q change q table pos others later false same e = later e

-- what is said of the position of each change is so of one that is among these positions
at_change : (Q : ℕ → ℕ → Type 0) (changes : List Change) → AllByRecursion (λ (change : Change). Q change.table change.pos) changes → (table pos : ℕ)
    → has_place (places_of changes) table pos ≡ true → Q table pos
at_change Q [] h table pos e = absurd cc
at_change Q (change ∷ changes) h table pos e =
    here_or_later Q change h.0 table pos (has_place (places_of changes) table pos) (at_change Q changes h.1 table pos)
    (change.table == table && change.pos == pos) refl e

no_change_twice : (setting : Setting) (outcome : Outcome) → IsSerial setting outcome → (earlier later : Commit) → IsCommitOf outcome earlier
    → IsCommitOf outcome later → later.txn.start ≤ earlier.rank → earlier.rank < later.rank → (table pos : ℕ)
    → changes_at earlier.entry table pos ≡ true → changes_at later.entry table pos ≡ true → ⊥
no_change_twice setting outcome is_serial earlier later is is_too began before table pos changes changes_too =
    let wrote : ℕ → ℕ → Bool = has_place later.txn.wrote in
    let own : wrote table pos ≡ true =
    at_change (λ of at. wrote of at ≡ true) later.entry.changes (lies_in setting outcome is_serial later is_too) table pos changes_too in
    let not_own : wrote table pos ≡ false =
    at_change (λ of at. wrote of at ≡ false) earlier.entry.changes
    (passes setting outcome is_serial earlier later is is_too began before).apart table pos changes in
    cc

pub no_lost_updates : LostUpdatesDoNotCommit
no_lost_updates setting outcome lawful is_serial commit other both table pos changes changes_too =
    elim (first_or commit.rank other.rank both.apart) [
      | inl before ↦ no_change_twice setting outcome is_serial commit other both.committed both.other_committed both.other_began before
          table pos changes changes_too
      | inr behind ↦ no_change_twice setting outcome is_serial other commit both.other_committed both.committed both.began behind
          table pos changes_too changes
    ]
