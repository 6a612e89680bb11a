-- Who answered all statements was told exactly what it is told alone at its start.
use Rattle.std.proofs.Common.{◌≡◌, ℕ, suc, ◌≤◌, List, [], ◌∷◌, Option, None, Some, refl, sym, ap, ◌∙◌, length, arith}
use Rattle.std.specs.Prelude.{take}
use Rattle.std.proofs.lemmas.List.{take_all}
use Rattle.hy_bound.specs.declared.Bound.{Bound}
use Rattle.hy_bound.specs.declared.Shape.{Shape}
use Rattle.hy_bound.specs.declared.Reply.{Reply}
use Rattle.hy_bound.specs.Savepoints.{Saved, saved_after, value_after}
use Rattle.hy_meaning.specs.Statement.{Database, mean}
use Rattle.hy_meaning.specs.Serial.{Alone, goes_on, database_back, alone_from}
use Rattle.hy_render.specs.declared.TxnOutcome.{TxnOutcome}
use Rattle.hy_render.specs.declared.Committed.{Committed as Entry}
use Rattle.hy_machine.specs.declared.Setting.{Setting}
use Rattle.hy_lawful.specs.Scripts.{statements_of}
use Rattle.hy_lawful.specs.Endings.{AnswersAll}
use Rattle.hy_lawful.specs.Databases.{database_at, alone_at}
use Rattle.hy_lawful.specs.Serial.{RepliesAreOfStart}
use Rattle.hy_serial.specs.Readers.{IsToldAsAlone, WhoAnswersAllIsToldAsAlone}
use Rattle.hy_serial.proofs.Items.{all_so}

-- ---- how many replies a transaction gets alone: as many as it has statements, or fewer where it stops
record HasReplies (count : ℕ) (given : Alone) : Type 0 where
  most : length given.replies ≤ count
  all : count ≤ length given.replies → given.stop ≡ None

has_replies_on : (count number : ℕ) (db : Database) (given : Option (Reply × Database)) (rest : Database → Alone)
    → ((next : Database) → HasReplies count (rest next)) → HasReplies (suc count) (goes_on number db given rest)
has_replies_on count number db None rest h = record { most = omega arith; all = λ some. absurd (omega (arith, some)) }
has_replies_on count number db (Some given) rest h = record {
  most = omega (arith, (h given.1).most);
  all = λ some. (h given.1).all (omega (arith, some));
}

has_replies : (shapes : List Shape) (saved : List (Saved Database)) (number : ℕ) (statements : List Bound) (db : Database)
    → HasReplies (length statements) (alone_from shapes saved number statements db)
has_replies shapes saved number [] db = record { most = omega arith; all = λ some. refl }
has_replies shapes saved number (statement ∷ statements) db =
    has_replies_on (length statements) number db (mean shapes statement db)
    (λ left. alone_from shapes (saved_after statement saved left) (suc number) statements (value_after database_back statement saved left))
    (λ left. has_replies shapes (saved_after statement saved left) (suc number) statements (value_after database_back statement saved left))

-- ---- told as alone

-- the first of some replies, if there are as many as these can be, are all of them
told_all : (count : ℕ) (replies : List Reply) (given : Alone) → HasReplies count given → length replies ≡ count
    → take (length replies) given.replies ≡ replies → (replies ≡ given.replies) × (given.stop ≡ None)
told_all count replies given has answers first =
    let same : replies ≡ given.replies = sym first ∙ take_all (length replies) given.replies (omega (arith, has.most, answers)) in
    (same, has.all (omega (arith, answers, ap (λ (others : List Reply). length others) same)))

told_at : (setting : Setting) (order : List Entry) (txn : TxnOutcome) → RepliesAreOfStart setting order txn → AnswersAll setting.programs txn
    → IsToldAsAlone setting order txn
told_at setting order txn first answers =
    let told = told_all (length (statements_of setting.programs txn.label)) txn.replies (alone_at setting order txn.label txn.start)
    (has_replies setting.shapes [] 1 (statements_of setting.programs txn.label) (database_at setting order txn.start)) answers first in
    record { replies = told.0; runs_on = told.1 }

pub who_answers_all : WhoAnswersAllIsToldAsAlone
who_answers_all setting outcome lawful is_serial =
    all_so (RepliesAreOfStart setting outcome.order)
    (λ (txn : TxnOutcome). AnswersAll setting.programs txn → IsToldAsAlone setting outcome.order txn) outcome.txns
    (told_at setting outcome.order) is_serial.replies
