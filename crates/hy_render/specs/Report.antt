-- The text of an outcome, line by line.
use Rattle.std.specs.Prelude.{ℕ, suc, List, [], ◌∷◌, ◌++◌, Option, None, Some, slice_index_or, codes, length, if◌then◌else◌, ◌==◌}
use Rattle.std.specs.List.{flat_map}
use Rattle.std.specs.Fmt.{decimal, signed_decimal}
use Rattle.hy_value.specs.declared.Value.{Value}
use Rattle.hy_value.specs.Print.{printed, printed_row}
use Rattle.hy_stamp.specs.declared.Label.{Label}
use Rattle.hy_bound.specs.declared.Reply.{Reply}
use Rattle.hy_bound.specs.declared.Grouped.{Grouped}
use Rattle.hy_bound.specs.declared.Reply.TheVariants.{Rows, Value as Total, Groups, Inserted, Duplicate, Updated, Deleted, Saved, Back, Released}
use Rattle.hy_value.specs.declared.change.Change.{Change}
use Rattle.hy_render.specs.declared.Names.{Names}
use Rattle.hy_bound.specs.declared.Ending.{Ending}
use Rattle.hy_bound.specs.declared.Ending.TheVariants.{Committed, Read, RolledBack, Conflict, Invalid, Range, Full}
use Rattle.hy_render.specs.declared.Place.{Place}
use Rattle.hy_render.specs.declared.TxnOutcome.{TxnOutcome}
use Rattle.hy_render.specs.declared.Committed.{Committed as Entry}
use Rattle.hy_render.specs.declared.Outcome.{Outcome}

-- a line ends with LF
abbrev pub line : List ℕ → List ℕ
line text = text ++ 10 ∷ []

-- a word and a space
abbrev pub word : List ℕ → List ℕ
word text = text ++ 32 ∷ []

abbrev pub table_name : Names → ℕ → List ℕ
table_name names table = slice_index_or names.tables table []

-- a transaction is named by its session and its number
abbrev pub label_name : Names → Label → List ℕ
label_name names label = slice_index_or names.sessions label.session [] ++ (46 ∷ []) ++ decimal label.txn

-- a table's name and a position
abbrev pub place_name : Names → ℕ → ℕ → List ℕ
place_name names table pos = word (table_name names table) ++ decimal pos

abbrev pub row_line : List Value → List ℕ
row_line row = line (codes "row " ++ printed_row row)

-- a group's value and its total
abbrev pub group_line : Grouped → List ℕ
group_line group = line (codes "group " ++ printed group.value ++ (124 ∷ []) ++ signed_decimal group.total)

-- what a SELECT shows, what an INSERT came to, how many rows an UPDATE selected or a DELETE removed, what became of a savepoint
abbrev pub reply_text : Reply → List ℕ
reply_text (Rows rows) = line (codes "rows " ++ decimal (length rows)) ++ flat_map row_line rows
reply_text (Total total) = line (codes "value " ++ signed_decimal total)
reply_text (Groups groups) = line (codes "groups " ++ decimal (length groups)) ++ flat_map group_line groups
reply_text Inserted = line (codes "inserted")
reply_text Duplicate = line (codes "duplicate")
reply_text (Updated count) = line (codes "updated " ++ decimal count)
reply_text (Deleted count) = line (codes "deleted " ++ decimal count)
reply_text Saved = line (codes "saved")
reply_text Back = line (codes "back")
reply_text Released = line (codes "released")

abbrev pub ending_text : Names → Ending → List ℕ
ending_text names (Committed rank) = codes "committed " ++ decimal rank
ending_text names Read = codes "read"
ending_text names RolledBack = codes "rolledback"
ending_text names (Conflict table pos other) = codes "conflict " ++ word (place_name names table pos) ++ label_name names other
ending_text names (Invalid table pos other statement) =
    codes "invalid " ++ word (place_name names table pos) ++ word (label_name names other) ++ codes "statement " ++ decimal statement
ending_text names (Range table pos) = codes "range " ++ place_name names table pos
ending_text names (Full table) = codes "full " ++ table_name names table

abbrev pub wrote_line : Names → Place → List ℕ
wrote_line names place = line (codes "wrote " ++ place_name names place.table place.pos)

-- the line of a table where inserts were placed
abbrev pub placed_line : Names → ℕ → ℕ → List ℕ
placed_line names table count =
    if count == 0 then [] else line (codes "placed " ++ word (table_name names table) ++ decimal count)

-- a line for each table where inserts were placed, the first of them having this number
abbrev pub placed_lines : Names → ℕ → List ℕ → List ℕ
placed_lines names table [] = []
placed_lines names table (count ∷ counts) =
    placed_line names table count ++ placed_lines names (suc table) counts

-- the first line of a transaction
abbrev pub start_line : Names → Label → ℕ → List ℕ
start_line names label start = line (codes "txn " ++ word (label_name names label) ++ codes "start " ++ decimal start)

abbrev pub txn_text : Names → TxnOutcome → List ℕ
txn_text names txn =
    start_line names txn.label txn.start
    ++ flat_map reply_text txn.replies
    ++ line (ending_text names txn.ending)
    ++ flat_map (wrote_line names) txn.wrote
    ++ placed_lines names 0 txn.placed

-- a row, or none
abbrev pub row_or_none : Option (List Value) → List ℕ
row_or_none None = codes "none"
row_or_none (Some row) = printed_row row

-- the row before a change, and the row after it
abbrev pub versions : Option (List Value) → Option (List Value) → List ℕ
versions before after = codes "from " ++ word (row_or_none before) ++ codes "to " ++ row_or_none after

abbrev pub change_line : Names → Change → List ℕ
change_line names change =
    line (codes "change " ++ word (place_name names change.table change.pos) ++ versions change.before change.after)

-- the first line of an entry of the commit order
abbrev pub entry_line : Names → ℕ → Label → List ℕ
entry_line names place label = line (codes "entry " ++ word (decimal place) ++ label_name names label)

-- the entries of the commit order, the first of them at this place
abbrev pub order_lines : Names → ℕ → List Entry → List ℕ
order_lines names place [] = []
order_lines names place (entry ∷ entries) =
    entry_line names place entry.label
    ++ flat_map (change_line names) entry.changes
    ++ order_lines names (suc place) entries

-- the first line of a table
abbrev pub table_line : Names → ℕ → ℕ → List ℕ
table_line names table count = line (codes "table " ++ word (table_name names table) ++ decimal count)

-- the tables, the first of them having this number
abbrev pub table_lines : Names → ℕ → List (List (List Value)) → List ℕ
table_lines names table [] = []
table_lines names table (rows ∷ tables) =
    table_line names table (length rows)
    ++ flat_map row_line rows
    ++ table_lines names (suc table) tables

-- the tables, and the last line
abbrev pub tables_text : Names → List (List (List Value)) → List ℕ
tables_text names tables = table_lines names 0 tables ++ line (codes "end")

-- the commit order and the final tables of an outcome
abbrev pub final_text : Names → Outcome → List ℕ
final_text names outcome =
    line (codes "order " ++ decimal (length outcome.order))
    ++ order_lines names 0 outcome.order
    ++ tables_text names outcome.tables

-- what `run` writes of an outcome
abbrev pub text : Names → Outcome → List ℕ
text names outcome = flat_map (txn_text names) outcome.txns ++ final_text names outcome
