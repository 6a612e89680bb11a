-- The serial databases, and what a transaction gives, logs and leaves when it runs alone from one of them on.
use Rattle.std.specs.Prelude.{ℕ, List, [], length, take, map}
use Rattle.hy_bound.specs.declared.Record.{Record}
use Rattle.hy_meaning.specs.Statement.{Table, Database, rows_in}
use Rattle.hy_meaning.specs.Serial.{Alone, alone_of, serial, database_of}
use Rattle.hy_render.specs.declared.TxnOutcome.{TxnOutcome}
use Rattle.hy_render.specs.declared.Committed.{Committed as Entry}
use Rattle.hy_stamp.specs.declared.Label.{Label}
use Rattle.hy_machine.specs.declared.Setting.{Setting}
use Rattle.hy_replay.specs.BagLaws.{logged_from}
use Rattle.hy_lawful.specs.Scripts.{statements_of}

-- the serial databases: the one after the first transactions of the commit order ran alone, one after another, from the
-- first rows on
abbrev pub database_at : Setting → List Entry → ℕ → Database
database_at setting order rank =
    serial setting.shapes (map (λ (entry : Entry). statements_of setting.programs entry.label) (take rank order)) (database_of setting.first)

-- what the transaction of a label gives when it runs alone from the database at a rank on
abbrev pub alone_at : Setting → List Entry → Label → ℕ → Alone
alone_at setting order label rank = alone_of setting.shapes (statements_of setting.programs label) (database_at setting order rank)

-- what a transaction logs when it runs alone from the database of its start on
abbrev pub logged_by : Setting → List Entry → TxnOutcome → List Record
logged_by setting order txn = logged_from setting.shapes [] 1 (statements_of setting.programs txn.label) (database_at setting order txn.start)

-- the rows of a table that the answered statements of a transaction leave, alone from the database of its start on
abbrev pub rows_left : Setting → List Entry → TxnOutcome → ℕ → Table
rows_left setting order txn =
    rows_in (alone_of setting.shapes (take (length txn.replies) (statements_of setting.programs txn.label)) (database_at setting order txn.start)).database
