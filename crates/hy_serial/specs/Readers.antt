-- What a transaction may rely on that only reads, or that answered all its statements.
use Rattle.std.specs.Prelude.{◌≡◌, ℕ, List, [], false, Option, None, Some, map, slice_get}
use Rattle.std.specs.List.{AllByRecursion, list_any}
use Rattle.std.specs.Option.{option_map}
use Rattle.hy_bound.specs.declared.Bound.{Bound}
use Rattle.hy_bound.specs.declared.Reply.{Reply}
use Rattle.hy_meaning.specs.Statement.{Database, mean}
use Rattle.hy_bound.specs.declared.Ending.TheVariants.{Read, RolledBack}
use Rattle.hy_render.specs.declared.TxnOutcome.{TxnOutcome}
use Rattle.hy_render.specs.declared.Committed.{Committed as Entry}
use Rattle.hy_render.specs.declared.Outcome.{Outcome}
use Rattle.hy_machine.specs.declared.Setting.{Setting}
use Rattle.hy_lawful.specs.Scripts.{txn_of, statements_of, ClosesWithCommit, ClosesWithRollback}
use Rattle.hy_lawful.specs.Endings.{AnswersAll}
use Rattle.hy_lawful.specs.Databases.{database_at, alone_at}
use Rattle.hy_lawful.specs.Written.{is_change}
use Rattle.hy_lawful.specs.Lawful.{Lawful}
use Rattle.hy_lawful.specs.Serial.{IsSerial}

-- a transaction that only reads: none of its statements is an INSERT, an UPDATE or a DELETE
abbrev pub OnlyReads : Setting → TxnOutcome → Type 0
OnlyReads setting txn = list_any is_change (statements_of setting.programs txn.label) ≡ false

-- all its statements are answered, and it ends as it closes: as read by COMMIT, as rolled back by ROLLBACK
pub record EndsAsItCloses (setting : Setting) (txn : TxnOutcome) : Type 0 where
  pub answers : AnswersAll setting.programs txn
  pub by_commit : ClosesWithCommit (txn_of setting.programs txn.label) → txn.ending ≡ Read
  pub by_rollback : ClosesWithRollback (txn_of setting.programs txn.label) → txn.ending ≡ RolledBack

-- whatever others do, a transaction that only reads is never refused
abbrev pub ReadersEndAsTheyClose : Type 0
ReadersEndAsTheyClose = (setting : Setting) (outcome : Outcome) → Lawful setting outcome → IsSerial setting outcome
    → AllByRecursion (λ (txn : TxnOutcome). OnlyReads setting txn → EndsAsItCloses setting txn) outcome.txns

-- a transaction of any kind that answered all its statements, wrote nothing and closes with COMMIT
pub record HasWrittenNothing (setting : Setting) (txn : TxnOutcome) : Type 0 where
  pub answers : AnswersAll setting.programs txn
  pub wrote : txn.wrote ≡ []
  pub closes : ClosesWithCommit (txn_of setting.programs txn.label)

-- it ends as read: it is not refused, and stands at no rank
abbrev pub WhoWroteNothingEndsAsRead : Type 0
WhoWroteNothingEndsAsRead = (setting : Setting) (outcome : Outcome) → Lawful setting outcome → IsSerial setting outcome
    → AllByRecursion (λ (txn : TxnOutcome). HasWrittenNothing setting txn → txn.ending ≡ Read) outcome.txns

-- a transaction that answered all its statements and closes with ROLLBACK ends as rolled back, whatever it wrote
abbrev pub RollbacksAreNotRefused : Type 0
RollbacksAreNotRefused = (setting : Setting) (outcome : Outcome) → Lawful setting outcome → IsSerial setting outcome
    → AllByRecursion (λ (txn : TxnOutcome). AnswersAll setting.programs txn → ClosesWithRollback (txn_of setting.programs txn.label)
    → txn.ending ≡ RolledBack) outcome.txns

-- a transaction was told exactly what it is told alone from the database of its start on, where it does not stop
pub record IsToldAsAlone (setting : Setting) (order : List Entry) (txn : TxnOutcome) : Type 0 where
  pub replies : txn.replies ≡ (alone_at setting order txn.label txn.start).replies
  pub runs_on : (alone_at setting order txn.label txn.start).stop ≡ None

-- so was each that answered all its statements, however it ended
abbrev pub WhoAnswersAllIsToldAsAlone : Type 0
WhoAnswersAllIsToldAsAlone = (setting : Setting) (outcome : Outcome) → Lawful setting outcome → IsSerial setting outcome
    → AllByRecursion (λ (txn : TxnOutcome). AnswersAll setting.programs txn → IsToldAsAlone setting outcome.order txn) outcome.txns

-- ---- one database

-- what a statement is answered over a database
abbrev pub answered_over : Setting → Database → Bound → Option Reply
answered_over setting db statement = option_map (λ (given : Reply × Database). given.0) (mean setting.shapes statement db)

-- each statement of a transaction has the answer that it has over one database, that of the transaction's start
abbrev pub ReadsOneDatabase : Setting → List Entry → TxnOutcome → Type 0
ReadsOneDatabase setting order txn =
    map (λ (reply : Reply). Some reply) txn.replies
    ≡ map (answered_over setting (database_at setting order txn.start)) (statements_of setting.programs txn.label)

-- so it is with a transaction that only reads: nothing that others do comes between two of its statements
abbrev pub ReadersReadOneDatabase : Type 0
ReadersReadOneDatabase = (setting : Setting) (outcome : Outcome) → Lawful setting outcome → IsSerial setting outcome
    → AllByRecursion (λ (txn : TxnOutcome). OnlyReads setting txn → ReadsOneDatabase setting outcome.order txn) outcome.txns

-- where a transaction has one statement twice, it is answered the same
abbrev pub RepeatsAgree : Setting → TxnOutcome → Type 0
RepeatsAgree setting txn = (number again : ℕ)
    → slice_get (statements_of setting.programs txn.label) number ≡ slice_get (statements_of setting.programs txn.label) again
    → slice_get txn.replies number ≡ slice_get txn.replies again

-- so reads can be repeated, and no phantom comes
abbrev pub ReadersCanRepeat : Type 0
ReadersCanRepeat = (setting : Setting) (outcome : Outcome) → Lawful setting outcome → IsSerial setting outcome
    → AllByRecursion (λ (txn : TxnOutcome). OnlyReads setting txn → RepeatsAgree setting txn) outcome.txns
