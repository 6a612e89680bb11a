-- What the lines of `explain` tell is so, in outcomes that are lawful and serializable.
use Rattle.std.specs.Prelude.{◌≡◌, ℕ, suc, ◌≤◌, ◌||◌, IsTrue, IsFalse, IfSome, Some, drop, map}
use Rattle.std.specs.List.{AllByRecursion}
use Rattle.hy_value.specs.declared.change.Change.{Change}
use Rattle.hy_bind.specs.Shapes.{catalog_shapes}
use Rattle.hy_bound.specs.declared.Record.{Record}
use Rattle.hy_bound.specs.declared.Ending.{Ending}
use Rattle.hy_bound.specs.declared.Ending.TheVariants.{Committed, Read, RolledBack, Conflict, Invalid, Range, Full}
use Rattle.hy_bound.specs.Predicate.{truth_at, changes_on}
use Rattle.hy_script.specs.declared.Script.{Script}
use Rattle.hy_stamp.specs.declared.Label.{Label}
use Rattle.hy_render.specs.declared.TxnOutcome.{TxnOutcome}
use Rattle.hy_render.specs.declared.Outcome.{Outcome}
use Rattle.hy_machine.specs.declared.Setting.{Setting}
use Rattle.hy_machine.specs.Validation.{first_hit}
use Rattle.hy_lawful.specs.Databases.{alone_at, logged_by}
use Rattle.hy_lawful.specs.Lawful.{Lawful}
use Rattle.hy_lawful.specs.Outcomes.{outcome_at, committed_at}
use Rattle.hy_lawful.specs.Overlaps.{IsFull}
use Rattle.hy_lawful.specs.Passing.{has_place}
use Rattle.hy_lawful.specs.Refusing.{IsOutOfRangeAt, IsNewRow}
use Rattle.hy_lawful.specs.Serial.{IsSerial}
use Rattle.hy_lawful.specs.Written.{would_write}
use Rattle.hy_explain.specs.Behind.{alone_behind}
use Rattle.hy_explain.specs.Found.{statement_at, refused_statement, rank_of, change_of, cell_before}
use Rattle.hy_explain.specs.Reads.{reads_of, hit_of}

-- what of a script does not change while it runs
pub record IsSettingOf (script : Script) (setting : Setting) : Type 0 where
  pub shapes : setting.shapes ≡ catalog_shapes script.catalog
  pub first : setting.first ≡ script.rows
  pub programs : setting.programs ≡ map (λ session. session.txns) script.sessions
  pub chunks : setting.chunks ≡ script.options.chunks
  pub rows : setting.rows ≡ script.options.rows

-- validation: the one that is named has committed since the start, and its change and the read that this hits are found; that
-- read's condition is true of the row before or after, and the row comes, goes or differs in one of its columns; of all
-- that the transaction logs it is the first hit by the entries from its start on; and what is told of it alone behind that
-- one is what it is told alone where those up to that one ran alone, one after another
pub record TellsInvalid (script : Script) (setting : Setting) (outcome : Outcome) (txn : TxnOutcome) (table pos : ℕ) (other : Label) (number : ℕ) : Type 0 where
  pub rank : ℕ
  pub committed : rank_of outcome other ≡ Some rank
  pub since : txn.start ≤ rank
  pub change : Change
  pub changed : change_of outcome other table pos ≡ Some change
  pub read : Record
  pub hit : hit_of (reads_of (catalog_shapes script.catalog) number (statement_at script txn.label number)) change ≡ Some read
  pub is_true : IsTrue (truth_at read.pred change.before || truth_at read.pred change.after)
  pub differs : IsTrue (changes_on read.columns change.before change.after)
  pub first : first_hit (logged_by setting outcome.order txn) (drop txn.start outcome.order) ≡ Some (Invalid table pos other number)
  pub behind : alone_behind script outcome.order txn.label (suc rank) ≡ alone_at setting outcome.order txn.label (suc rank)

-- conflict: the refused statement selects what stood there at the start, and the transaction has not written there; the one
-- that is named has, and where it has committed, it did so since the start
pub record TellsConflict (script : Script) (outcome : Outcome) (txn : TxnOutcome) (table pos : ℕ) (other : Label) : Type 0 where
  pub rival : TxnOutcome
  pub found : outcome_at outcome other ≡ Some rival
  pub wrote : IsTrue (has_place rival.wrote table pos)
  pub since : IfSome (committed_at rival.ending) (λ (rank : ℕ). txn.start ≤ rank)
  pub selects : IsTrue (would_write table (refused_statement script txn) (cell_before script.rows outcome.order txn.start table pos))
  pub not_own : IsFalse (has_place txn.wrote table pos)

-- what each refusal tells; of `range` and `full` it is what `hy_lawful` says of them
abbrev pub Tells : Script → Setting → Outcome → TxnOutcome → Ending → Type 0
Tells script setting outcome txn (Committed rank) = Unit {0}
Tells script setting outcome txn Read = Unit {0}
Tells script setting outcome txn RolledBack = Unit {0}
Tells script setting outcome txn (Conflict table pos other) = TellsConflict script outcome txn table pos other
Tells script setting outcome txn (Invalid table pos other number) = TellsInvalid script setting outcome txn table pos other number
Tells script setting outcome txn (Range table pos) = IsOutOfRangeAt setting outcome.order txn table pos
Tells script setting outcome txn (Full table) = IsNewRow setting outcome.order txn table × IsFull setting outcome txn table

-- of every transaction of a lawful and serializable outcome
abbrev pub ExplanationsAreTrue : Type 0
ExplanationsAreTrue = (script : Script) (setting : Setting) (outcome : Outcome) → IsSettingOf script setting → Lawful setting outcome → IsSerial setting outcome
    → AllByRecursion (λ (txn : TxnOutcome). Tells script setting outcome txn txn.ending) outcome.txns
