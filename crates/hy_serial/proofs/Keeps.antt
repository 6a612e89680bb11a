-- What every transaction of a script keeps when it runs alone is kept along the commit order.
use Rattle.std.proofs.Common.{ℕ, zero, suc, List, [], ◌∷◌, Option, None, Some, refl, sym, ◌∙◌, subst, map, length, ℤ}
use Rattle.std.specs.Prelude.{take, slice_get, slice_index_or, IsTrue}
use Rattle.std.specs.List.{AllByRecursion}
use Rattle.hy_bound.specs.declared.Bound.{Bound}
use Rattle.hy_bound.specs.declared.Txn.{Txn}
use Rattle.hy_meaning.specs.Statement.{Database}
use Rattle.hy_meaning.specs.Serial.{serial, database_of}
use Rattle.hy_stamp.specs.declared.Label.{Label}
use Rattle.hy_render.specs.declared.TxnOutcome.{TxnOutcome}
use Rattle.hy_render.specs.declared.Committed.{Committed as Entry}
use Rattle.hy_render.specs.declared.Outcome.{Outcome}
use Rattle.hy_machine.specs.declared.Setting.{Setting}
use Rattle.hy_lawful.specs.Scripts.{Programs, numbered, txn_of, statements_in, ClosesWithCommit}
use Rattle.hy_lawful.specs.Databases.{database_at}
use Rattle.hy_lawful.specs.Lawful.{Lawful}
use Rattle.hy_lawful.specs.Serial.{IsSerial}
use Rattle.hy_serial.specs.Replaying.{alone_on}
use Rattle.hy_serial.specs.Keeping.{Keeps, EachKeeps, StaysKept, TestsStayTrue, IsAsAtFirst, LeavesValue, ValuesStay}
use Rattle.hy_serial.proofs.Items.{all_so, all_of}
use Rattle.hy_serial.proofs.Replays.{statements_at, Replays, replays_later, order_replays}

-- ---- the transaction of a label

-- what is so of none, and of all transactions of these sessions, is so of that of a label
at_place : (P : Option Txn → Type 0) → P None → (txns : List Txn) → AllByRecursion (λ (txn : Txn). P (Some txn)) txns → (before : ℕ)
    → P (slice_get txns before)
at_place P none [] h before = none
at_place P none (txn ∷ txns) h zero = h.0
at_place P none (txn ∷ txns) h (suc before) = at_place P none txns h.1 before

at_number : (P : Option Txn → Type 0) → P None → (txns : List Txn) → AllByRecursion (λ (txn : Txn). P (Some txn)) txns → (number : ℕ)
    → P (numbered txns number)
at_number P none txns h zero = none
at_number P none txns h (suc before) = at_place P none txns h before

at_session : (P : Option Txn → Type 0) (programs : Programs)
    → AllByRecursion (λ (txns : List Txn). AllByRecursion (λ (txn : Txn). P (Some txn)) txns) programs → (session : ℕ)
    → AllByRecursion (λ (txn : Txn). P (Some txn)) (slice_index_or programs session [])
at_session P [] h session = tt
at_session P (txns ∷ programs) h zero = h.0
at_session P (txns ∷ programs) h (suc session) = at_session P programs h.1 session

at_label : (P : Option Txn → Type 0) → P None → (programs : Programs)
    → AllByRecursion (λ (txns : List Txn). AllByRecursion (λ (txn : Txn). P (Some txn)) txns) programs → (label : Label)
    → P (txn_of programs label)
at_label P none programs h label =
    at_number P none (slice_index_or programs label.session []) (at_session P programs h label.session) label.txn

-- ---- along the order

-- a transaction keeps a property, if it closes with COMMIT
abbrev KeepsIfItCommits : (Database → Type 0) → Setting → Option Txn → Type 0
KeepsIfItCommits Kept setting txn = ClosesWithCommit txn → Keeps Kept setting.shapes (statements_in txn)

kept_along : (Kept : Database → Type 0) (setting : Setting) → ((label : Label) → KeepsIfItCommits Kept setting (txn_of setting.programs label))
    → (outcome : Outcome) (order : List Entry) (db : Database) → Replays setting outcome order db → Kept db → (rank : ℕ)
    → Kept (serial setting.shapes (map (statements_at setting) (take rank order)) db)
kept_along Kept setting keeps outcome order db replays kept zero = kept
kept_along Kept setting keeps outcome [] db replays kept (suc rank) = kept
kept_along Kept setting keeps outcome (entry ∷ order) db replays kept (suc rank) =
    kept_along Kept setting keeps outcome order (alone_on setting entry db).database (replays_later setting outcome entry order db replays)
    (keeps entry.label replays.closes.0 db kept replays.runs_on.0) rank

kept_at : (Kept : Database → Type 0) (setting : Setting) (outcome : Outcome) → Lawful setting outcome → IsSerial setting outcome
    → EachKeeps Kept setting → Kept (database_of setting.first) → (rank : ℕ) → Kept (database_at setting outcome.order rank)
kept_at Kept setting outcome lawful is_serial each kept rank =
    kept_along Kept setting (at_label (KeepsIfItCommits Kept setting) (λ closes. absurd closes) setting.programs each)
    outcome outcome.order (database_of setting.first) (order_replays setting outcome lawful is_serial) kept rank

pub what_is_kept : (Kept : Database → Type 0) → StaysKept Kept
what_is_kept Kept setting outcome lawful is_serial each kept =
    let at : (rank : ℕ) → Kept (database_at setting outcome.order rank) = kept_at Kept setting outcome lawful is_serial each kept in
    record {
      at_ranks = at;
      as_printed = λ rank within. subst Kept (sym (is_serial.history rank within)) (at rank);
      at_starts = all_of (λ (txn : TxnOutcome). Kept (database_at setting outcome.order txn.start)) outcome.txns (λ txn. at txn.start);
      at_the_end = subst Kept (sym is_serial.tables) (at (length outcome.order));
    }

pub tests_stay : TestsStayTrue
tests_stay test = what_is_kept (λ (db : Database). IsTrue (test db))

-- ---- values

keeps_value : (value : Database → ℤ) (setting : Setting) (statements : List Bound) → LeavesValue value setting.shapes statements
    → Keeps (IsAsAtFirst value setting) setting.shapes statements
keeps_value value setting statements leaves db same runs_on = leaves db runs_on ∙ same

pub values_stay : ValuesStay
values_stay value setting outcome lawful is_serial each =
    what_is_kept (IsAsAtFirst value setting) setting outcome lawful is_serial
    (all_so (λ (txns : List Txn). AllByRecursion (λ (txn : Txn). IsTrue txn.commits → LeavesValue value setting.shapes txn.statements) txns)
    (λ (txns : List Txn). AllByRecursion (λ (txn : Txn). IsTrue txn.commits → Keeps (IsAsAtFirst value setting) setting.shapes txn.statements) txns)
    setting.programs
    (λ txns. all_so (λ (txn : Txn). IsTrue txn.commits → LeavesValue value setting.shapes txn.statements)
    (λ (txn : Txn). IsTrue txn.commits → Keeps (IsAsAtFirst value setting) setting.shapes txn.statements) txns
    (λ txn leaves commits. keeps_value value setting txn.statements (leaves commits))) each) refl
