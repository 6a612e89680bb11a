-- What a transaction that could not commit is told alone behind the one that it lost against.
use Rattle.std.specs.Prelude.{ℕ, suc, ◌*◌, List, [], ◌∷◌, ◌++◌, Option, None, Some, codes, flat_map, length, map, slice_get, slice_index_or, take}
use Rattle.std.specs.List.{range_with_len}
use Rattle.std.specs.Fmt.{decimal, signed_decimal}
use Rattle.hy_value.specs.declared.Value.{Value}
use Rattle.hy_value.specs.declared.change.Change.{Change}
use Rattle.hy_value.specs.Print.{printed, printed_row}
use Rattle.hy_value.specs.Sorted.{sorted}
use Rattle.hy_bind.specs.Shapes.{catalog_shapes}
use Rattle.hy_bound.specs.Changes.{present}
use Rattle.hy_bound.specs.declared.Grouped.{Grouped}
use Rattle.hy_bound.specs.declared.Reply.{Reply}
use Rattle.hy_bound.specs.declared.Reply.TheVariants as reply
use Rattle.hy_stamp.specs.declared.Label.{Label}
use Rattle.hy_script.specs.declared.Script.{Script}
use Rattle.hy_render.specs.declared.Committed.{Committed as Entry}
use Rattle.hy_meaning.specs.Statement.{Table, Database}
use Rattle.hy_meaning.specs.Serial.{Alone, alone_of}
use Rattle.hy_machine.specs.Tables.{Cell}
use Rattle.hy_lawful.specs.Cells.{after_changes}
use Rattle.hy_explain.specs.Words.{txn_name}
use Rattle.hy_explain.specs.Found.{item_numbered, statements_at}

-- ---- the tables behind the first entries of the order, and a transaction alone on them

-- how many positions each table has
abbrev pub positions_of : Script → ℕ
positions_of script = script.options.chunks * script.options.rows

-- the changes of entries, one after another
abbrev pub changes_of : List Entry → List Change
changes_of entries = flat_map (λ (entry : Entry). entry.changes) entries

-- what stands at each of so many positions of a table with these first rows, after entries
abbrev pub cells_after : List (List Value) → ℕ → List Entry → ℕ → List Cell
cells_after rows table entries positions = map (λ (pos : ℕ). after_changes table pos (slice_get rows pos) (changes_of entries)) (range_with_len 0 positions)

-- the rows of a table after the entries before a rank, ascending, and those of all tables
abbrev pub rows_behind : Script → List Entry → ℕ → ℕ → Table
rows_behind script order rank table =
    sorted (present (cells_after (slice_index_or script.rows table []) table (take rank order) (positions_of script)))

abbrev pub tables_behind : Script → List Entry → ℕ → Database
tables_behind script order rank = map (rows_behind script order rank) (range_with_len 0 (length script.rows))

-- what a transaction gives, alone on the tables after the entries before this rank
abbrev pub alone_behind : Script → List Entry → Label → ℕ → Alone
alone_behind script order label rank = alone_of (catalog_shapes script.catalog) (statements_at script label) (tables_behind script order rank)

-- ---- its words

-- texts in one line, the first behind these words and each other one behind a comma
abbrev pub listed_from : List ℕ → List (List ℕ) → List ℕ
listed_from before [] = []
listed_from before (text ∷ texts) = before ++ text ++ listed_from (codes ", ") texts

abbrev pub listed : List (List ℕ) → List ℕ
listed texts = listed_from (codes ": ") texts

abbrev pub group_words : Grouped → List ℕ
group_words group = printed group.value ++ codes "|" ++ signed_decimal group.total

-- a reply in the words of its first line, with the rows or the groups that it shows
unfoldable pub reply_words : Reply → List ℕ
reply_words (reply.Rows rows) = codes "rows " ++ decimal (length rows) ++ listed (map printed_row rows)
reply_words (reply.Value total) = codes "value " ++ signed_decimal total
reply_words (reply.Groups groups) = codes "groups " ++ decimal (length groups) ++ listed (map group_words groups)
reply_words reply.Inserted = codes "inserted"
reply_words reply.Duplicate = codes "duplicate"
reply_words (reply.Updated count) = codes "updated " ++ decimal count
reply_words (reply.Deleted count) = codes "deleted " ++ decimal count
reply_words reply.Saved = codes "saved"
reply_words reply.Back = codes "back"
reply_words reply.Released = codes "released"

-- what is said first, of a statement of this number
unfoldable pub alone_words : Script → Label → ℕ → List ℕ
alone_words script other number = codes "Alone behind " ++ txn_name script.sessions other ++ codes ", statement " ++ decimal number

-- how the transaction ends where the statement isn't answered: at the one that takes a value out of 64 bits, if one does
unfoldable pub stop_line : Script → Label → Option ℕ → List ℕ
stop_line script other None = []
stop_line script other (Some number) = alone_words script other number ++ codes " takes a value out of 64 bits.\n"

-- what the statement is answered
unfoldable pub answer_line : Script → Label → ℕ → Option ℕ → Option Reply → List ℕ
answer_line script other number stop None = stop_line script other stop
answer_line script other number stop (Some reply) = alone_words script other number ++ codes " answers " ++ reply_words reply ++ codes ".\n"

-- what the statement of a number is answered alone, or how the transaction ends before it
abbrev pub told_line : Script → Label → ℕ → Alone → List ℕ
told_line script other number given = answer_line script other number given.stop (item_numbered given.replies number)

-- the same behind the one that it lost against, if the rank of that is found
unfoldable pub behind_line : Script → List Entry → Label → ℕ → Label → Option ℕ → List ℕ
behind_line script order label number other None = []
behind_line script order label number other (Some rank) = told_line script other number (alone_behind script order label (suc rank))
