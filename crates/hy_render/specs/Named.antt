-- What names and an outcome are like where the outcome's text tells it.
use Rattle.std.specs.Prelude.{◌≡◌, ◌≢◌, ℕ, ◌^◌, ◌<◌, List, [], length, ℤ, unsigned_abs, slice_index_or, IfSome}
use Rattle.std.specs.List.{All}
use Rattle.hy_value.specs.declared.Value.{Value}
use Rattle.hy_value.specs.declared.Value.TheVariants.{Null, Int, Text}
use Rattle.hy_stamp.specs.declared.Label.{Label}
use Rattle.hy_bound.specs.declared.Reply.{Reply}
use Rattle.hy_bound.specs.declared.Grouped.{Grouped}
use Rattle.hy_bound.specs.declared.Reply.TheVariants.{Rows, Value as Total, Groups, Inserted, Duplicate, Updated, Deleted, Saved, Back, Released}
use Rattle.hy_value.specs.declared.change.Change.{Change}
use Rattle.hy_render.specs.declared.Names.{Names}
use Rattle.hy_bound.specs.declared.Ending.{Ending}
use Rattle.hy_bound.specs.declared.Ending.TheVariants.{Committed, Read, RolledBack, Conflict, Invalid, Range, Full}
use Rattle.hy_render.specs.declared.TxnOutcome.{TxnOutcome}
use Rattle.hy_render.specs.declared.Committed.{Committed as Entry}
use Rattle.hy_render.specs.declared.Outcome.{Outcome}

-- no two names are the same
abbrev pub Differ : List (List ℕ) → Type 0
Differ names = (i j : ℕ) → i < length names → j < length names → slice_index_or names i [] ≡ slice_index_or names j [] → i ≡ j

-- no byte of a table's name is a space or ends a line
abbrev pub IsTableName : List ℕ → Type 0
IsTableName name = All (λ byte. (byte ≢ 32) × (byte ≢ 10)) name

-- no byte of a session's name is a dot
abbrev pub IsSessionName : List ℕ → Type 0
IsSessionName name = All (λ byte. byte ≢ 46) name

-- tables can be told apart by their names, and so can sessions
pub record AreTelling (names : Names) : Type 0 where
  pub tables : All IsTableName names.tables
  pub tables_differ : Differ names.tables
  pub sessions : All IsSessionName names.sessions
  pub sessions_differ : Differ names.sessions

-- a number of at most 64 digits, which are all printed; the program has no larger ones
abbrev pub IsPrinted : ℕ → Type 0
IsPrinted n = n < 10 ^ 64

-- the same of a number with a sign
abbrev pub IsPrintedSigned : ℤ → Type 0
IsPrintedSigned z = IsPrinted (unsigned_abs z)

-- the number of a value, if it is one, is printed
abbrev pub IsPrintedValue : Value → Type 0
IsPrintedValue Null = Unit {0}
IsPrintedValue (Int n) = IsPrintedSigned n
IsPrintedValue (Text text) = Unit {0}

-- those of a row are
abbrev pub IsPrintedRow : List Value → Type 0
IsPrintedRow row = All IsPrintedValue row

-- those of a group are
pub record IsPrintedGroup (group : Grouped) : Type 0 where
  pub value : IsPrintedValue group.value
  pub total : IsPrintedSigned group.total

-- those of a reply are
abbrev pub IsPrintedReply : Reply → Type 0
IsPrintedReply (Rows rows) = All IsPrintedRow rows
IsPrintedReply (Total total) = IsPrintedSigned total
IsPrintedReply (Groups groups) = All IsPrintedGroup groups
IsPrintedReply Inserted = Unit {0}
IsPrintedReply Duplicate = Unit {0}
IsPrintedReply (Updated count) = IsPrinted count
IsPrintedReply (Deleted count) = IsPrinted count
IsPrintedReply Saved = Unit {0}
IsPrintedReply Back = Unit {0}
IsPrintedReply Released = Unit {0}

-- a label's session has a name
pub record IsNamedLabel (names : Names) (label : Label) : Type 0 where
  pub named : label.session < length names.sessions
  pub printed : IsPrinted label.txn

-- a position's table has a name
pub record IsNamedPlace (names : Names) (table pos : ℕ) : Type 0 where
  pub named : table < length names.tables
  pub printed : IsPrinted pos

-- the tables and sessions of an ending have names
abbrev pub IsNamedEnding : Names → Ending → Type 0
IsNamedEnding names (Committed rank) = IsPrinted rank
IsNamedEnding names Read = Unit {0}
IsNamedEnding names RolledBack = Unit {0}
IsNamedEnding names (Conflict table pos other) = IsNamedPlace names table pos × IsNamedLabel names other
IsNamedEnding names (Invalid table pos other statement) = IsNamedPlace names table pos × IsNamedLabel names other × IsPrinted statement
IsNamedEnding names (Range table pos) = IsNamedPlace names table pos
IsNamedEnding names (Full table) = table < length names.tables

-- those of a transaction have names, and it has a count of inserts for each table
pub record IsNamedTxn (names : Names) (txn : TxnOutcome) : Type 0 where
  pub label : IsNamedLabel names txn.label
  pub start : IsPrinted txn.start
  pub replies : All IsPrintedReply txn.replies
  pub ending : IsNamedEnding names txn.ending
  pub wrote : All (λ place. IsNamedPlace names place.table place.pos) txn.wrote
  pub each_table : length txn.placed ≡ length names.tables
  pub placed : All IsPrinted txn.placed

-- a change's table has a name
pub record IsNamedChange (names : Names) (change : Change) : Type 0 where
  pub place : IsNamedPlace names change.table change.pos
  pub before : IfSome change.before IsPrintedRow
  pub after : IfSome change.after IsPrintedRow

-- the session and the tables of an entry of the commit order have names
pub record IsNamedEntry (names : Names) (entry : Entry) : Type 0 where
  pub label : IsNamedLabel names entry.label
  pub changes : All (IsNamedChange names) entry.changes

-- all that an outcome mentions has a name, and all its numbers are printed
pub record IsNamed (names : Names) (outcome : Outcome) : Type 0 where
  pub txns : All (IsNamedTxn names) outcome.txns
  pub order : All (IsNamedEntry names) outcome.order
  pub tables : All (All IsPrintedRow) outcome.tables
