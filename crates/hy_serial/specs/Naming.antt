-- That all which a lawful and serializable outcome mentions has a name: of its numbers it is only said that they are printed.
use Rattle.std.specs.Prelude.{◌≡◌, ◌*◌, IfSome, length}
use Rattle.std.specs.List.{All}
use Rattle.hy_bound.specs.Fits.{Fits}
use Rattle.hy_value.specs.declared.change.Change.{Change}
use Rattle.hy_render.specs.declared.Names.{Names}
use Rattle.hy_bound.specs.declared.Ending.{Ending}
use Rattle.hy_bound.specs.declared.Ending.TheVariants.{Committed, Read, RolledBack, Conflict, Invalid, Range, Full}
use Rattle.hy_render.specs.declared.TxnOutcome.{TxnOutcome}
use Rattle.hy_render.specs.declared.Committed.{Committed as Entry}
use Rattle.hy_render.specs.declared.Outcome.{Outcome}
use Rattle.hy_render.specs.Named.{IsPrinted, IsPrintedRow, IsPrintedReply, IsNamed}
use Rattle.hy_machine.specs.declared.Setting.{Setting}
use Rattle.hy_lawful.specs.Lawful.{Lawful}
use Rattle.hy_lawful.specs.Serial.{IsSerial}

-- ---- numbers of an outcome that are printed: they have at most 64 digits

abbrev pub IsPrintedEnding : Ending → Type 0
IsPrintedEnding (Committed rank) = IsPrinted rank
IsPrintedEnding Read = Unit {0}
IsPrintedEnding RolledBack = Unit {0}
IsPrintedEnding (Conflict table pos other) = IsPrinted pos × IsPrinted other.txn
IsPrintedEnding (Invalid table pos other statement) = IsPrinted pos × IsPrinted other.txn × IsPrinted statement
IsPrintedEnding (Range table pos) = IsPrinted pos
IsPrintedEnding (Full table) = Unit {0}

pub record IsPrintedTxn (txn : TxnOutcome) : Type 0 where
  pub number : IsPrinted txn.label.txn
  pub start : IsPrinted txn.start
  pub replies : All IsPrintedReply txn.replies
  pub ending : IsPrintedEnding txn.ending
  pub wrote : All (λ place. IsPrinted place.pos) txn.wrote
  pub placed : All IsPrinted txn.placed

pub record IsPrintedChange (change : Change) : Type 0 where
  pub pos : IsPrinted change.pos
  pub before : IfSome change.before IsPrintedRow
  pub after : IfSome change.after IsPrintedRow

pub record IsPrintedEntry (entry : Entry) : Type 0 where
  pub number : IsPrinted entry.label.txn
  pub changes : All IsPrintedChange entry.changes

pub record IsPrintedOutcome (outcome : Outcome) : Type 0 where
  pub txns : All IsPrintedTxn outcome.txns
  pub order : All IsPrintedEntry outcome.order
  pub tables : All (All IsPrintedRow) outcome.tables

-- ---- names

-- there is a name for each table and each session of a script
pub record AreNamesOf (setting : Setting) (names : Names) : Type 0 where
  pub tables : length names.tables ≡ length setting.shapes
  pub sessions : length names.sessions ≡ length setting.programs

-- an outcome of a script that fits, if it is lawful and serializable and its numbers are printed, mentions nothing else
abbrev pub OutcomesAreNamed : Type 0
OutcomesAreNamed = (setting : Setting) (names : Names) (outcome : Outcome)
    → Fits setting.shapes (setting.chunks * setting.rows) setting.first setting.programs → AreNamesOf setting names
    → Lawful setting outcome → IsSerial setting outcome → IsPrintedOutcome outcome → IsNamed names outcome
