-- When each ending of a transaction may come.
use Rattle.std.specs.Prelude.{◌≡◌, ℕ, ◌<◌, ◌≤◌, Bool, false, ◌==◌, IsTrue, IsFalse, Option, None, Some, length}
use Rattle.std.specs.Option.{IsSomeAnd}
use Rattle.hy_bound.specs.declared.Bound.{Bound}
use Rattle.hy_bound.specs.declared.Bound.TheVariants.{Select, Group, Insert, Update, Delete, Savepoint, RollbackTo, Release}
use Rattle.hy_stamp.specs.declared.Label.{Label}
use Rattle.hy_bound.specs.declared.Ending.{Ending}
use Rattle.hy_bound.specs.declared.Ending.TheVariants.{Committed, Read, RolledBack, Conflict, Invalid, Range, Full}
use Rattle.hy_render.specs.declared.TxnOutcome.{TxnOutcome}
use Rattle.hy_render.specs.declared.Outcome.{Outcome}
use Rattle.hy_lawful.specs.Scripts.{Programs, txn_of, statements_of, ClosesWithCommit, ClosesWithRollback}
use Rattle.hy_lawful.specs.Outcomes.{outcome_at, refused_statement, committed_at}

-- whether a statement is there and is an UPDATE of a table; an UPDATE or DELETE of it; an INSERT into it
abbrev pub updates : ℕ → Option Bound → Bool
updates table None = false
updates table (Some (Select tables ons pred items)) = false
updates table (Some (Group of pred key aggregate)) = false
updates table (Some (Insert of row)) = false
updates table (Some (Update of sets pred)) = of == table
updates table (Some (Delete of pred)) = false
updates table (Some (Savepoint name)) = false
updates table (Some (RollbackTo name)) = false
updates table (Some (Release name)) = false

abbrev pub changes_rows : ℕ → Option Bound → Bool
changes_rows table None = false
changes_rows table (Some (Select tables ons pred items)) = false
changes_rows table (Some (Group of pred key aggregate)) = false
changes_rows table (Some (Insert of row)) = false
changes_rows table (Some (Update of sets pred)) = of == table
changes_rows table (Some (Delete of pred)) = of == table
changes_rows table (Some (Savepoint name)) = false
changes_rows table (Some (RollbackTo name)) = false
changes_rows table (Some (Release name)) = false

abbrev pub inserts : ℕ → Option Bound → Bool
inserts table None = false
inserts table (Some (Select tables ons pred items)) = false
inserts table (Some (Group of pred key aggregate)) = false
inserts table (Some (Insert of row)) = of == table
inserts table (Some (Update of sets pred)) = false
inserts table (Some (Delete of pred)) = false
inserts table (Some (Savepoint name)) = false
inserts table (Some (RollbackTo name)) = false
inserts table (Some (Release name)) = false

-- all statements of a transaction are answered
abbrev pub AnswersAll : Programs → TxnOutcome → Type 0
AnswersAll programs txn = length txn.replies ≡ length (statements_of programs txn.label)

-- committed: it closes with COMMIT, and wrote something
pub record EndsCommitted (programs : Programs) (txn : TxnOutcome) : Type 0 where
  pub answers : AnswersAll programs txn
  pub closes : ClosesWithCommit (txn_of programs txn.label)
  pub wrote : 0 < length txn.wrote

-- read: it closes with COMMIT, and wrote nothing
pub record EndsRead (programs : Programs) (txn : TxnOutcome) : Type 0 where
  pub answers : AnswersAll programs txn
  pub closes : ClosesWithCommit (txn_of programs txn.label)
  pub wrote : length txn.wrote ≡ 0

-- rolled back: it closes with ROLLBACK
pub record EndsRolledBack (programs : Programs) (txn : TxnOutcome) : Type 0 where
  pub answers : AnswersAll programs txn
  pub closes : ClosesWithRollback (txn_of programs txn.label)

-- conflict: the refused statement is an UPDATE or a DELETE of the table, and the one that is named is a transaction of
-- another session
pub record EndsInConflict (programs : Programs) (outcome : Outcome) (txn : TxnOutcome) (table : ℕ) (other : Label) : Type 0 where
  pub changes : IsTrue (changes_rows table (refused_statement programs txn))
  pub rival : IsSomeAnd (outcome_at outcome other) (λ rival. IsFalse (rival.label.session == txn.label.session))

-- invalid: it closes with COMMIT and wrote something, the statement that is named is one that it answered, and the
-- transaction that is named has committed since its start
pub record EndsInvalid (programs : Programs) (outcome : Outcome) (txn : TxnOutcome) (other : Label) (statement : ℕ) : Type 0 where
  pub answers : AnswersAll programs txn
  pub closes : ClosesWithCommit (txn_of programs txn.label)
  pub wrote : 0 < length txn.wrote
  pub named : (0 < statement) × (statement ≤ length txn.replies)
  pub since : IsSomeAnd (outcome_at outcome other) (λ rival. IsSomeAnd (committed_at rival.ending) (λ (rank : ℕ). txn.start ≤ rank))

-- when an ending may come: out of range where the refused statement is an UPDATE of the table, full where it is an
-- INSERT into it
abbrev pub MayEnd : Programs → Outcome → TxnOutcome → Ending → Type 0
MayEnd programs outcome txn (Committed rank) = EndsCommitted programs txn
MayEnd programs outcome txn Read = EndsRead programs txn
MayEnd programs outcome txn RolledBack = EndsRolledBack programs txn
MayEnd programs outcome txn (Conflict table pos other) = EndsInConflict programs outcome txn table other
MayEnd programs outcome txn (Invalid table pos other statement) = EndsInvalid programs outcome txn other statement
MayEnd programs outcome txn (Range table pos) = IsTrue (updates table (refused_statement programs txn))
MayEnd programs outcome txn (Full table) = IsTrue (inserts table (refused_statement programs txn))
