-- A transaction that only reads is answered over the one database of its start.
use Rattle.std.proofs.Common.{◌≡◌, ℕ, suc, List, [], ◌∷◌, Option, None, Some, false, refl, sym, ap, ◌∙◌, map}
use Rattle.std.specs.Prelude.{slice_get}
use Rattle.std.specs.List.{list_any}
use Rattle.std.specs.Option.{option_map}
use Rattle.std.proofs.lemmas.Option.{slice_get-map}
use Rattle.hy_bound.specs.declared.Bound.{Bound}
use Rattle.hy_bound.specs.declared.Bound.TheVariants.{Select, Group, Insert, Update, Delete, Savepoint, RollbackTo, Release}
use Rattle.hy_bound.specs.declared.Reply.{Reply}
use Rattle.hy_bound.specs.declared.Reply.TheVariants as reply
use Rattle.hy_bound.specs.Savepoints.{Saved, saved_after, value_after}
use Rattle.hy_bound.specs.SavedRelations.{AreAlike, saved_after_alike, value_after_alike}
use Rattle.hy_meaning.specs.Statement.{Database, answer_of, grouped, rows_in}
use Rattle.hy_meaning.specs.Serial.{database_back, alone_from}
use Rattle.hy_render.specs.declared.TxnOutcome.{TxnOutcome}
use Rattle.hy_render.specs.declared.Committed.{Committed as Entry}
use Rattle.hy_machine.specs.declared.Setting.{Setting}
use Rattle.hy_lawful.specs.Scripts.{statements_of}
use Rattle.hy_lawful.specs.Endings.{AnswersAll}
use Rattle.hy_lawful.specs.Databases.{database_at}
use Rattle.hy_lawful.specs.Written.{is_change}
use Rattle.hy_serial.specs.Readers.{OnlyReads, EndsAsItCloses, IsToldAsAlone, answered_over, ReadsOneDatabase, RepeatsAgree}
use Rattle.hy_serial.specs.Readers.{ReadersReadOneDatabase, ReadersCanRepeat}
use Rattle.hy_serial.proofs.Items.{all_so, all_both}
use Rattle.hy_serial.proofs.Endings.{readers_end}
use Rattle.hy_serial.proofs.Told.{who_answers_all}

abbrev told : Reply → Option Reply
told reply = Some reply

-- each of these savepoints keeps this database
abbrev IsThis : Database → Database → Database → Type 0
IsThis db was other = was ≡ db

abbrev KeepThis : Database → List (Saved Database) → Type 0
KeepThis db saved = AreAlike (IsThis db) saved saved

saving_keeps : (db : Database) (statement : Bound) (saved : List (Saved Database)) → KeepThis db saved → KeepThis db (saved_after statement saved db)
saving_keeps db statement saved k = saved_after_alike (IsThis db) statement saved saved db db k refl

-- going back to one of them leaves the database
back_stays : (db : Database) (statement : Bound) (saved : List (Saved Database)) → KeepThis db saved → value_after database_back statement saved db ≡ db
back_stays db statement saved k =
    value_after_alike (IsThis db) (IsThis db) database_back database_back statement saved saved db db k refl (λ was other same. same)

-- statements that change nothing, alone from a database on, are each answered over this database
reads_alone : (setting : Setting) (saved : List (Saved Database)) (number : ℕ) (statements : List Bound) (db : Database) → KeepThis db saved
    → list_any is_change statements ≡ false
    → map told (alone_from setting.shapes saved number statements db).replies ≡ map (answered_over setting db) statements
reads_alone setting saved number [] db k e = refl
reads_alone setting saved number (Select tables ons pred items ∷ statements) db k e =
    ap (λ (others : List (Option Reply)). Some (answer_of ons pred items (map (rows_in db) tables)) ∷ others)
    (reads_alone setting saved (suc number) statements db k e)
reads_alone setting saved number (Group table pred key aggregate ∷ statements) db k e =
    ap (λ (others : List (Option Reply)). Some (grouped pred key aggregate (rows_in db table)) ∷ others)
    (reads_alone setting saved (suc number) statements db k e)
reads_alone setting saved number (Insert table row ∷ statements) db k e = absurd cc
reads_alone setting saved number (Update table sets pred ∷ statements) db k e = absurd cc
reads_alone setting saved number (Delete table pred ∷ statements) db k e = absurd cc
reads_alone setting saved number (Savepoint name ∷ statements) db k e =
    ap (λ (others : List (Option Reply)). Some reply.Saved ∷ others)
    (reads_alone setting (saved_after (Savepoint name) saved db) (suc number) statements db (saving_keeps db (Savepoint name) saved k) e)
reads_alone setting saved number (RollbackTo name ∷ statements) db k e =
    let kept : List (Saved Database) = saved_after (RollbackTo name) saved db in
    ap (λ (next : Database). Some reply.Back ∷ map told (alone_from setting.shapes kept (suc number) statements next).replies)
    (back_stays db (RollbackTo name) saved k)
    ∙ ap (λ (others : List (Option Reply)). Some reply.Back ∷ others)
    (reads_alone setting kept (suc number) statements db (saving_keeps db (RollbackTo name) saved k) e)
reads_alone setting saved number (Release name ∷ statements) db k e =
    ap (λ (others : List (Option Reply)). Some reply.Released ∷ others)
    (reads_alone setting (saved_after (Release name) saved db) (suc number) statements db (saving_keeps db (Release name) saved k) e)

reads_one : (setting : Setting) (order : List Entry) (txn : TxnOutcome) → OnlyReads setting txn → IsToldAsAlone setting order txn
    → ReadsOneDatabase setting order txn
reads_one setting order txn reads is_told =
    ap (map told) is_told.replies
    ∙ reads_alone setting [] 1 (statements_of setting.programs txn.label) (database_at setting order txn.start) tt reads

pub readers_read_one : ReadersReadOneDatabase
readers_read_one setting outcome lawful is_serial =
    let EndsSo : TxnOutcome → Type 0 = λ (txn : TxnOutcome). OnlyReads setting txn → EndsAsItCloses setting txn in
    let IsToldSo : TxnOutcome → Type 0 = λ (txn : TxnOutcome). AnswersAll setting.programs txn → IsToldAsAlone setting outcome.order txn in
    all_so (λ (txn : TxnOutcome). EndsSo txn × IsToldSo txn)
    (λ (txn : TxnOutcome). OnlyReads setting txn → ReadsOneDatabase setting outcome.order txn) outcome.txns
    (λ txn h reads. reads_one setting outcome.order txn reads (h.1 (h.0 reads).answers))
    (all_both EndsSo IsToldSo outcome.txns (readers_end setting outcome lawful is_serial) (who_answers_all setting outcome lawful is_serial))

-- ---- a statement that comes twice

same_told : (reply again : Option Reply) → option_map told reply ≡ option_map told again → reply ≡ again
same_told None None e = refl
same_told None (Some again) e = absurd cc
same_told (Some reply) None e = absurd cc
same_told (Some reply) (Some again) e = cc

repeats_agree : (setting : Setting) (order : List Entry) (txn : TxnOutcome) → ReadsOneDatabase setting order txn → RepeatsAgree setting txn
repeats_agree setting order txn one number again same =
    let statements : List Bound = statements_of setting.programs txn.label in
    let answer : Bound → Option Reply = answered_over setting (database_at setting order txn.start) in
    let at : (i : ℕ) → option_map told (slice_get txn.replies i) ≡ option_map answer (slice_get statements i) =
    λ i. sym (slice_get-map told txn.replies i)
    ∙ (ap (λ (all : List (Option Reply)). slice_get all i) one ∙ slice_get-map answer statements i) in
    same_told (slice_get txn.replies number) (slice_get txn.replies again)
    (at number ∙ (ap (λ (found : Option Bound). option_map answer found) same ∙ sym (at again)))

pub readers_can_repeat : ReadersCanRepeat
readers_can_repeat setting outcome lawful is_serial =
    all_so (λ (txn : TxnOutcome). OnlyReads setting txn → ReadsOneDatabase setting outcome.order txn)
    (λ (txn : TxnOutcome). OnlyReads setting txn → RepeatsAgree setting txn) outcome.txns
    (λ txn one reads. repeats_agree setting outcome.order txn (one reads)) (readers_read_one setting outcome lawful is_serial)
