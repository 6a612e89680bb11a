-- How a transaction ends that only reads, or that wrote nothing.
use Rattle.std.proofs.Common.{◌≡◌, ℕ, ◌<◌, ◌≤◌, List, [], ◌∷◌, Option, None, Some, Bool, true, false, not, refl, ap, ◌∙◌, length, arith, zero, suc}
use Rattle.std.specs.Prelude.{slice_get, ◌||◌}
use Rattle.std.specs.List.{list_any}
use Rattle.std.proofs.lemmas.Option.{slice_get_past}
use Rattle.hy_bound.specs.declared.Bound.{Bound}
use Rattle.hy_bound.specs.declared.Bound.TheVariants.{Select, Group, Insert, Update, Delete, Savepoint, RollbackTo, Release}
use Rattle.hy_bound.specs.declared.Txn.{Txn}
use Rattle.hy_bound.specs.declared.Ending.{Ending}
use Rattle.hy_bound.specs.declared.Ending.TheVariants.{Committed, Read, RolledBack, Conflict, Invalid, Range, Full}
use Rattle.hy_render.specs.declared.Place.{Place}
use Rattle.hy_render.specs.declared.TxnOutcome.{TxnOutcome}
use Rattle.hy_render.specs.declared.Outcome.{Outcome}
use Rattle.hy_lawful.specs.Scripts.{Programs, txn_of, statements_of, ClosesWithCommit, ClosesWithRollback}
use Rattle.hy_lawful.specs.Outcomes.{refused_statement}
use Rattle.hy_lawful.specs.Endings.{updates, changes_rows, inserts, AnswersAll, MayEnd}
use Rattle.hy_lawful.specs.Written.{is_change, ReadersWriteNothing}
use Rattle.hy_serial.specs.Readers.{OnlyReads, EndsAsItCloses, ReadersEndAsTheyClose, HasWrittenNothing, WhoWroteNothingEndsAsRead, RollbacksAreNotRefused}
use Rattle.hy_serial.proofs.Items.{all_so, all_both}

-- ---- the refused statement

-- a test of a statement, if there is one, that is false of none and of every SELECT
record IsOfChanges (test : Option Bound → Bool) : Type 0 where
  none : test None ≡ false
  reads : (statement : Bound) → is_change statement ≡ false → test (Some statement) ≡ false

updates_changes : (table : ℕ) (statement : Bound) → is_change statement ≡ false → updates table (Some statement) ≡ false
updates_changes table (Select tables ons pred items) e = refl
updates_changes table (Group of pred key aggregate) e = refl
updates_changes table (Insert of row) e = absurd cc
updates_changes table (Update of sets pred) e = absurd cc
updates_changes table (Delete of pred) e = absurd cc
updates_changes table (Savepoint name) e = refl
updates_changes table (RollbackTo name) e = refl
updates_changes table (Release name) e = refl

changes_change : (table : ℕ) (statement : Bound) → is_change statement ≡ false → changes_rows table (Some statement) ≡ false
changes_change table (Select tables ons pred items) e = refl
changes_change table (Group of pred key aggregate) e = refl
changes_change table (Insert of row) e = absurd cc
changes_change table (Update of sets pred) e = absurd cc
changes_change table (Delete of pred) e = absurd cc
changes_change table (Savepoint name) e = refl
changes_change table (RollbackTo name) e = refl
changes_change table (Release name) e = refl

inserts_change : (table : ℕ) (statement : Bound) → is_change statement ≡ false → inserts table (Some statement) ≡ false
inserts_change table (Select tables ons pred items) e = refl
inserts_change table (Group of pred key aggregate) e = refl
inserts_change table (Insert of row) e = absurd cc
inserts_change table (Update of sets pred) e = absurd cc
inserts_change table (Delete of pred) e = absurd cc
inserts_change table (Savepoint name) e = refl
inserts_change table (RollbackTo name) e = refl
inserts_change table (Release name) e = refl

of_updates : (table : ℕ) → IsOfChanges (updates table)
of_updates table = record { none = refl; reads = updates_changes table }

of_changes : (table : ℕ) → IsOfChanges (changes_rows table)
of_changes table = record { none = refl; reads = changes_change table }

of_inserts : (table : ℕ) → IsOfChanges (inserts table)
of_inserts table = record { none = refl; reads = inserts_change table }

or_left : (b c : Bool) → (b || c) ≡ false → b ≡ false
or_left true c e = absurd cc
or_left false c e = refl

or_right : (b c : Bool) → (b || c) ≡ false → c ≡ false
or_right true c e = absurd cc
or_right false c e = e

-- no statement of a reader passes
never_refused : (test : Option Bound → Bool) → IsOfChanges test → (statements : List Bound) → list_any is_change statements ≡ false → (at : ℕ)
    → test (slice_get statements at) ≡ false
never_refused test of [] e at = of.none
never_refused test of (statement ∷ statements) e zero = of.reads statement (or_left (is_change statement) (list_any is_change statements) e)
never_refused test of (statement ∷ statements) e (suc at) =
    never_refused test of statements (or_right (is_change statement) (list_any is_change statements) e) at

-- where all are answered none is refused
none_refused : (test : Option Bound → Bool) → IsOfChanges test → (programs : Programs) (txn : TxnOutcome) → AnswersAll programs txn
    → test (refused_statement programs txn) ≡ false
none_refused test of programs txn answers =
    ap test (slice_get_past (statements_of programs txn.label) (length txn.replies)
    (let e : length (statements_of programs txn.label) ≤ length txn.replies = omega (arith, answers) in e)) ∙ of.none

-- ---- how it closes

closes_once : (b : Bool) → b ≡ true → not b ≡ true → ⊥
closes_once true e f = absurd cc
closes_once false e f = absurd cc

one_close : (txn : Option Txn) → ClosesWithCommit txn → ClosesWithRollback txn → ⊥
one_close None commits rolls = absurd commits
one_close (Some txn) commits rolls = closes_once txn.commits commits rolls

wrote_something : (wrote : List Place) → wrote ≡ [] → 0 < length wrote → ⊥
wrote_something wrote e some = absurd (omega (arith, some, ap (λ (places : List Place). length places) e))

-- ---- endings

not_both : (b : Bool) → b ≡ true → b ≡ false → ⊥
not_both b e f = cc

reader_answers : (programs : Programs) (outcome : Outcome) (txn : TxnOutcome) → list_any is_change (statements_of programs txn.label) ≡ false
    → (ending : Ending) → MayEnd programs outcome txn ending → AnswersAll programs txn
reader_answers programs outcome txn e (Committed rank) may = may.answers
reader_answers programs outcome txn e Read may = may.answers
reader_answers programs outcome txn e RolledBack may = may.answers
reader_answers programs outcome txn e (Conflict table pos other) may = absurd
    (not_both (changes_rows table (refused_statement programs txn)) may.changes
    (never_refused (changes_rows table) (of_changes table) (statements_of programs txn.label) e (length txn.replies)))
reader_answers programs outcome txn e (Invalid table pos other statement) may = may.answers
reader_answers programs outcome txn e (Range table pos) may = absurd
    (not_both (updates table (refused_statement programs txn)) may
    (never_refused (updates table) (of_updates table) (statements_of programs txn.label) e (length txn.replies)))
reader_answers programs outcome txn e (Full table) may = absurd
    (not_both (inserts table (refused_statement programs txn)) may
    (never_refused (inserts table) (of_inserts table) (statements_of programs txn.label) e (length txn.replies)))

-- who answered all, and wrote nothing, ends as it closes
ends_as_read : (programs : Programs) (outcome : Outcome) (txn : TxnOutcome) → AnswersAll programs txn → txn.wrote ≡ []
    → ClosesWithCommit (txn_of programs txn.label) → (ending : Ending) → MayEnd programs outcome txn ending → ending ≡ Read
ends_as_read programs outcome txn answers wrote closes (Committed rank) may = absurd (wrote_something txn.wrote wrote may.wrote)
ends_as_read programs outcome txn answers wrote closes Read may = refl
ends_as_read programs outcome txn answers wrote closes RolledBack may = absurd (one_close (txn_of programs txn.label) closes may.closes)
ends_as_read programs outcome txn answers wrote closes (Conflict table pos other) may = absurd
    (not_both (changes_rows table (refused_statement programs txn)) may.changes
    (none_refused (changes_rows table) (of_changes table) programs txn answers))
ends_as_read programs outcome txn answers wrote closes (Invalid table pos other statement) may =
    absurd (wrote_something txn.wrote wrote may.wrote)
ends_as_read programs outcome txn answers wrote closes (Range table pos) may = absurd
    (not_both (updates table (refused_statement programs txn)) may (none_refused (updates table) (of_updates table) programs txn answers))
ends_as_read programs outcome txn answers wrote closes (Full table) may = absurd
    (not_both (inserts table (refused_statement programs txn)) may (none_refused (inserts table) (of_inserts table) programs txn answers))

ends_rolled_back : (programs : Programs) (outcome : Outcome) (txn : TxnOutcome) → AnswersAll programs txn
    → ClosesWithRollback (txn_of programs txn.label) → (ending : Ending) → MayEnd programs outcome txn ending → ending ≡ RolledBack
ends_rolled_back programs outcome txn answers closes (Committed rank) may = absurd (one_close (txn_of programs txn.label) may.closes closes)
ends_rolled_back programs outcome txn answers closes Read may = absurd (one_close (txn_of programs txn.label) may.closes closes)
ends_rolled_back programs outcome txn answers closes RolledBack may = refl
ends_rolled_back programs outcome txn answers closes (Conflict table pos other) may = absurd
    (not_both (changes_rows table (refused_statement programs txn)) may.changes
    (none_refused (changes_rows table) (of_changes table) programs txn answers))
ends_rolled_back programs outcome txn answers closes (Invalid table pos other statement) may =
    absurd (one_close (txn_of programs txn.label) may.closes closes)
ends_rolled_back programs outcome txn answers closes (Range table pos) may = absurd
    (not_both (updates table (refused_statement programs txn)) may (none_refused (updates table) (of_updates table) programs txn answers))
ends_rolled_back programs outcome txn answers closes (Full table) may = absurd
    (not_both (inserts table (refused_statement programs txn)) may (none_refused (inserts table) (of_inserts table) programs txn answers))

-- ---- the laws

pub readers_end : ReadersEndAsTheyClose
readers_end setting outcome lawful is_serial =
    let MayEndSo : TxnOutcome → Type 0 = λ (txn : TxnOutcome). MayEnd setting.programs outcome txn txn.ending in
    all_so (λ (txn : TxnOutcome). MayEndSo txn × ReadersWriteNothing setting txn)
    (λ (txn : TxnOutcome). OnlyReads setting txn → EndsAsItCloses setting txn) outcome.txns
    (λ txn h reads.
    let answers : AnswersAll setting.programs txn = reader_answers setting.programs outcome txn reads txn.ending h.0 in
    record {
      answers = answers;
      by_commit = λ closes. ends_as_read setting.programs outcome txn answers (h.1 reads) closes txn.ending h.0;
      by_rollback = λ closes. ends_rolled_back setting.programs outcome txn answers closes txn.ending h.0;
    })
    (all_both MayEndSo (ReadersWriteNothing setting) outcome.txns lawful.endings is_serial.readers)

pub who_wrote_nothing : WhoWroteNothingEndsAsRead
who_wrote_nothing setting outcome lawful is_serial =
    all_so (λ (txn : TxnOutcome). MayEnd setting.programs outcome txn txn.ending)
    (λ (txn : TxnOutcome). HasWrittenNothing setting txn → txn.ending ≡ Read) outcome.txns
    (λ txn may has. ends_as_read setting.programs outcome txn has.answers has.wrote has.closes txn.ending may) lawful.endings

pub rollbacks_end : RollbacksAreNotRefused
rollbacks_end setting outcome lawful is_serial =
    all_so (λ (txn : TxnOutcome). MayEnd setting.programs outcome txn txn.ending)
    (λ (txn : TxnOutcome). AnswersAll setting.programs txn → ClosesWithRollback (txn_of setting.programs txn.label) → txn.ending ≡ RolledBack)
    outcome.txns (λ txn may answers closes. ends_rolled_back setting.programs outcome txn answers closes txn.ending may) lawful.endings
