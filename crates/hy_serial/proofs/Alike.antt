-- A transaction before which the same transactions committed is told the same.
use Rattle.std.proofs.Common.{◌≡◌, ℕ, ◌≤◌, List, sym, ap, ◌∙◌, map, length, arith, inl, inr, subst}
use Rattle.std.specs.Prelude.{take}
use Rattle.std.specs.List.{AllByRecursion}
use Rattle.std.proofs.Math.Seq.{take-length}
use Rattle.std.proofs.lemmas.Bool.{cases_lt}
use Rattle.std.proofs.lemmas.List.{take-take}
use Rattle.std.proofs.lemmas.Simd.{map-map}
use Rattle.hy_bound.specs.declared.Bound.{Bound}
use Rattle.hy_bound.specs.declared.Reply.{Reply}
use Rattle.hy_meaning.specs.Statement.{Database}
use Rattle.hy_meaning.specs.Serial.{alone_of, serial, database_of}
use Rattle.hy_stamp.specs.declared.Label.{Label}
use Rattle.hy_render.specs.declared.TxnOutcome.{TxnOutcome}
use Rattle.hy_render.specs.declared.Committed.{Committed as Entry}
use Rattle.hy_render.specs.declared.Outcome.{Outcome}
use Rattle.hy_machine.specs.declared.Setting.{Setting}
use Rattle.hy_lawful.specs.Scripts.{statements_of}
use Rattle.hy_lawful.specs.Databases.{database_at, alone_at}
use Rattle.hy_lawful.specs.Serial.{AreFirstOf, RepliesAreOfStart}
use Rattle.hy_serial.specs.Prefixes.{labels_in, committed_before, StartsAlike, AreToldAlike, RepliesAreOfCommitsBefore, TablesAreOfTheOrder}
use Rattle.hy_serial.proofs.Items.{all_so}

-- the database that transactions leave, one after another from the first rows on
abbrev database_after : Setting → List Label → Database
database_after setting labels =
    serial setting.shapes (map (λ (label : Label). statements_of setting.programs label) labels) (database_of setting.first)

-- the database at a rank is that of the transactions that committed before it
database_of_labels : (setting : Setting) (order : List Entry) (rank : ℕ)
    → database_at setting order rank ≡ database_after setting (committed_before order rank)
database_of_labels setting order rank =
    ap (λ (all : List (List Bound)). serial setting.shapes all (database_of setting.first))
    (sym (map-map (λ (label : Label). statements_of setting.programs label) (λ (entry : Entry). entry.label) (take rank order)))

same_database : (setting : Setting) (order orders : List Entry) (rank other : ℕ) → committed_before order rank ≡ committed_before orders other
    → database_at setting order rank ≡ database_at setting orders other
same_database setting order orders rank other same =
    database_of_labels setting order rank
    ∙ (ap (database_after setting) same ∙ sym (database_of_labels setting orders other))

-- two that are both the first of some replies: the shorter are the first of the longer
shorter_first : (replies others all : List Reply) → AreFirstOf replies all → AreFirstOf others all → length replies ≤ length others
    → AreFirstOf replies others
shorter_first replies others all first second at_most =
    ap (λ (front : List Reply). take (length replies) front) (sym second)
    ∙ (take-take (length replies) (length others) all at_most ∙ first)

both_first : (txn again : TxnOutcome) (all : List Reply) → AreFirstOf txn.replies all → AreFirstOf again.replies all → AreToldAlike txn again
both_first txn again all first second =
    elim (cases_lt (length txn.replies) (length again.replies)) [
      | inl fewer ↦ inl (shorter_first txn.replies again.replies all first second (omega (arith, fewer)))
      | inr at_most ↦ inr (shorter_first again.replies txn.replies all second first at_most)
    ]

told_alike : (setting : Setting) (outcome other : Outcome) (txn again : TxnOutcome) → RepliesAreOfStart setting outcome.order txn
    → RepliesAreOfStart setting other.order again → StartsAlike outcome txn other again → AreToldAlike txn again
told_alike setting outcome other txn again first second alike =
    let same : (alone_at setting other.order again.label again.start).replies ≡ (alone_at setting outcome.order txn.label txn.start).replies =
    ap (λ (label : Label). (alone_at setting other.order label again.start).replies) (sym alike.label)
    ∙ ap (λ db. (alone_of setting.shapes (statements_of setting.programs txn.label) db).replies)
    (sym (same_database setting outcome.order other.order txn.start again.start alike.before)) in
    both_first txn again (alone_at setting outcome.order txn.label txn.start).replies first (subst (AreFirstOf again.replies) same second)

pub replies_alike : RepliesAreOfCommitsBefore
replies_alike setting outcome other lawful is_serial lawful_too is_serial_too =
    all_so (RepliesAreOfStart setting outcome.order)
    (λ (txn : TxnOutcome). AllByRecursion (λ (again : TxnOutcome). StartsAlike outcome txn other again → AreToldAlike txn again) other.txns)
    outcome.txns
    (λ txn first. all_so (RepliesAreOfStart setting other.order) (λ (again : TxnOutcome). StartsAlike outcome txn other again → AreToldAlike txn again)
    other.txns (λ again second. told_alike setting outcome other txn again first second) is_serial_too.replies)
    is_serial.replies

-- ---- the printed tables

all_before : (order : List Entry) → committed_before order (length order) ≡ labels_in order
all_before order = ap labels_in (take-length order)

pub tables_alike : TablesAreOfTheOrder
tables_alike setting outcome other lawful is_serial lawful_too is_serial_too same =
    is_serial.tables
    ∙ (same_database setting outcome.order other.order (length outcome.order) (length other.order)
    (all_before outcome.order ∙ (same ∙ sym (all_before other.order)))
    ∙ sym is_serial_too.tables)
