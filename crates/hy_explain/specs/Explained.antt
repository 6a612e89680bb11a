-- The text of `hy explain`: of each transaction that was refused, what the refusal stands for.
use Rattle.std.specs.Prelude.{ℕ, zero, suc, ◌+◌, List, [], ◌++◌, Bool, true, false, ◌==◌, Option, None, Some, slice_index_or, codes, flat_map, length, if◌then◌else◌}
use Rattle.std.specs.List.{list_any}
use Rattle.std.specs.Fmt.{decimal}
use Rattle.hy_value.specs.declared.Value.{Value}
use Rattle.hy_value.specs.declared.ColMask.{ColMask}
use Rattle.hy_value.specs.declared.change.Change.{Change}
use Rattle.hy_value.specs.Columns.{has_column}
use Rattle.hy_value.specs.Print.{printed_row}
use Rattle.hy_schema.specs.declared.Column.{Column}
use Rattle.hy_bind.specs.Shapes.{catalog_shapes}
use Rattle.hy_stamp.specs.declared.Label.{Label}
use Rattle.hy_bound.specs.declared.Assign.{Assign}
use Rattle.hy_bound.specs.declared.Bound.{Bound}
use Rattle.hy_bound.specs.declared.Bound.TheVariants.{Select, Group, Insert, Update, Delete, Savepoint, RollbackTo, Release}
use Rattle.hy_bound.specs.declared.Record.{Record}
use Rattle.hy_bound.specs.declared.Ending.{Ending}
use Rattle.hy_bound.specs.declared.Ending.TheVariants.{Committed, Read, RolledBack, Conflict, Invalid, Range, Full}
use Rattle.hy_bound.specs.Condition.{Condition, True, Compare, IsNull, Not, And, Or}
use Rattle.hy_bound.specs.Predicate.{truth_at}
use Rattle.hy_script.specs.declared.Script.{Script}
use Rattle.hy_render.specs.Report.{line, versions, row_or_none}
use Rattle.hy_render.specs.declared.TxnOutcome.{TxnOutcome}
use Rattle.hy_render.specs.declared.Outcome.{Outcome}
use Rattle.hy_machine.specs.Tables.{Cell}
use Rattle.hy_lawful.specs.Outcomes.{outcome_at, committed_at}
use Rattle.hy_lawful.specs.Overlaps.{may_take_room}
use Rattle.hy_explain.specs.Words.{table_name, columns_at, names_where, txn_name}
use Rattle.hy_explain.specs.Conditions.{where_text}
use Rattle.hy_explain.specs.Reads.{reads_of, hit_of}
use Rattle.hy_explain.specs.Behind.{behind_line}
use Rattle.hy_explain.specs.Found.{statement_at, refused_statement, rank_of, change_of, cell_before, differs_in, goes_out_in, is_out}

-- ---- what refusals have in common

-- the name of a transaction of a script
abbrev pub named : Script → Label → List ℕ
named script label = txn_name script.sessions label

-- a position of a table
unfoldable pub row_text : Script → ℕ → ℕ → List ℕ
row_text script table pos = codes " row " ++ decimal pos ++ codes " of " ++ table_name script.catalog table

-- what is said first where a statement was refused, and its number
unfoldable pub refused_text : Script → TxnOutcome → List ℕ
refused_text script txn = named script txn.label ++ codes " was refused. Its statement " ++ decimal (length txn.replies + 1)

-- where a transaction stands in the order
unfoldable pub rank_text : Script → Label → ℕ → List ℕ
rank_text script label rank = codes " committed at rank " ++ decimal rank ++ codes " since the start of " ++ named script label

-- ---- validation

-- the columns that are looked at, or that only the rows are
unfoldable pub looked_text : List Column → ColMask → List ℕ
looked_text columns mask = if mask.0 == 0 then codes "rows" else names_where (has_column mask) columns

-- what a statement read, if that is found
unfoldable pub read_text : Script → Option Record → List ℕ
read_text script None = []
read_text script (Some read) =
    codes " read " ++ looked_text (columns_at script.catalog read.table) read.columns ++ codes " of "
    ++ table_name script.catalog read.table ++ where_text (columns_at script.catalog read.table) read.pred

-- who could not commit, and which of its statements read what
unfoldable pub invalid_line : Script → Label → ℕ → Option Record → List ℕ
invalid_line script label number read =
    named script label ++ codes " could not commit. Its statement " ++ decimal number ++ read_text script read ++ codes ".\n"

-- since when a transaction stands in the order, as a clause between commas
unfoldable pub since_text : Script → Label → Option ℕ → List ℕ
since_text script label None = []
since_text script label (Some rank) = codes "," ++ rank_text script label rank ++ codes ","

-- who changed what
unfoldable pub change_line : Script → Label → Label → Option ℕ → Change → List ℕ
change_line script label other rank change =
    named script other ++ since_text script label rank ++ codes " changed" ++ row_text script change.table change.pos
    ++ codes " " ++ versions change.before change.after ++ codes ".\n"

-- of which versions a condition is true
abbrev pub truth_words : Bool → Bool → List ℕ
truth_words true true = codes "The condition was true of it before, and is true of it after"
truth_words true false = codes "The condition was true of it before"
truth_words false true = codes "The condition is true of it after"
truth_words false false = codes "The condition is true of neither"

-- where all rows are read: which versions are there
abbrev pub there_words : Bool → Bool → List ℕ
there_words true true = codes "A row stood there before, and one stands there after"
there_words true false = codes "A row stood there before"
there_words false true = codes "A row stands there after"
there_words false false = codes "No row stands there"

abbrev pub true_words : Condition → Bool → Bool → List ℕ
true_words True before after = there_words before after
true_words (Compare column op right) before after = truth_words before after
true_words (IsNull column) before after = truth_words before after
true_words (Not c) before after = truth_words before after
true_words (And c d) before after = truth_words before after
true_words (Or c d) before after = truth_words before after

-- in which columns two versions differ
abbrev pub differing_text : List Column → (ℕ → Bool) → List ℕ
differing_text columns test = codes ", and it differs in " ++ names_where test columns ++ codes ".\n"

-- in which of the columns that were read two versions differ
unfoldable pub differ_text : List Column → ColMask → Cell → Cell → List ℕ
differ_text columns mask None after = codes ", and the row is new.\n"
differ_text columns mask (Some before) None = codes ", and the row is gone.\n"
differ_text columns mask (Some before) (Some after) =
    differing_text columns (differs_in mask before after)

-- why a change hits what was read
unfoldable pub hit_line : Script → Record → Change → List ℕ
hit_line script read change =
    true_words read.pred (truth_at read.pred change.before) (truth_at read.pred change.after)
    ++ differ_text (columns_at script.catalog read.table) read.columns change.before change.after

-- that nothing was hit before
unfoldable pub first_line : Script → Label → List ℕ
first_line script label =
    codes "No earlier change since its start hits what " ++ named script label ++ codes " read, and this one hits no earlier statement.\n"

-- why a change hits a read, if both are found
unfoldable pub hit_lines : Script → Label → Option Record → Change → List ℕ
hit_lines script label None change = []
hit_lines script label (Some read) change = hit_line script read change ++ first_line script label

-- what a transaction could not commit for, from the change that is named
unfoldable pub changed_text : Script → Label → ℕ → Label → Option ℕ → List Record → Option Change → List ℕ
changed_text script label number other rank reads None = invalid_line script label number None
changed_text script label number other rank reads (Some change) =
    invalid_line script label number (hit_of reads change)
    ++ change_line script label other rank change
    ++ hit_lines script label (hit_of reads change) change

abbrev pub invalid_text : Script → Outcome → Label → ℕ → ℕ → Label → ℕ → List ℕ
invalid_text script outcome label table pos other number =
    changed_text script label number other (rank_of outcome other)
    (reads_of (catalog_shapes script.catalog) number (statement_at script label number)) (change_of outcome other table pos)
    ++ behind_line script outcome.order label number other (rank_of outcome other)

-- ---- conflicts

-- what a statement was to do with a row that it selects
abbrev pub write_words : Option Bound → List ℕ
write_words None = codes " was to write"
write_words (Some (Select tables ons pred items)) = codes " was to write"
write_words (Some (Group of pred key aggregate)) = codes " was to write"
write_words (Some (Insert of row)) = codes " was to write"
write_words (Some (Update of sets pred)) = codes " was to update"
write_words (Some (Delete of pred)) = codes " was to delete"
write_words (Some (Savepoint name)) = codes " was to write"
write_words (Some (RollbackTo name)) = codes " was to write"
write_words (Some (Release name)) = codes " was to write"

-- which rows a statement selects
unfoldable pub selects_text : List Column → Option Bound → List ℕ
selects_text columns None = []
selects_text columns (Some (Select tables ons pred items)) = []
selects_text columns (Some (Group of pred key aggregate)) = []
selects_text columns (Some (Insert of row)) = []
selects_text columns (Some (Update of sets pred)) = where_text columns pred
selects_text columns (Some (Delete of pred)) = where_text columns pred
selects_text columns (Some (Savepoint name)) = []
selects_text columns (Some (RollbackTo name)) = []
selects_text columns (Some (Release name)) = []

-- which statement was to write what
unfoldable pub write_line : Script → TxnOutcome → ℕ → ℕ → List ℕ
write_line script txn table pos =
    refused_text script txn ++ write_words (refused_statement script txn) ++ row_text script table pos
    ++ selects_text (columns_at script.catalog table) (refused_statement script txn) ++ codes ".\n"

-- what stood at a position at the start of a transaction
abbrev pub stood_line : Script → Label → Cell → List ℕ
stood_line script label cell = codes "There stood " ++ row_or_none cell ++ codes " at the start of " ++ named script label ++ codes ".\n"

-- how a transaction ended that has not committed
abbrev pub open_words : Ending → List ℕ
open_words (Committed rank) = codes " committed"
open_words Read = codes " was still open; it wrote nothing"
open_words RolledBack = codes " was still open; it rolled back later"
open_words (Conflict table pos other) = codes " was still open; it was refused later"
open_words (Invalid table pos other statement) = codes " was still open; it was refused later"
open_words (Range table pos) = codes " was still open; it was refused later"
open_words (Full table) = codes " was still open; it was refused later"

unfoldable pub ended_text : Script → Label → Ending → Option ℕ → List ℕ
ended_text script label ending None = open_words ending
ended_text script label ending (Some rank) = rank_text script label rank

-- what became of the one that had written there
unfoldable pub rival_text : Script → Label → Option TxnOutcome → List ℕ
rival_text script label None = codes " is not told of"
rival_text script label (Some rival) = ended_text script label rival.ending (committed_at rival.ending)

abbrev pub rival_line : Script → Label → Label → Option TxnOutcome → List ℕ
rival_line script label other rival =
    named script other ++ codes " had written there, and" ++ rival_text script label rival ++ codes ".\n"

abbrev pub conflict_text : Script → Outcome → TxnOutcome → ℕ → ℕ → Label → List ℕ
conflict_text script outcome txn table pos other =
    write_line script txn table pos ++ stood_line script txn.label (cell_before script.rows outcome.order txn.start table pos)
    ++ rival_line script txn.label other (outcome_at outcome other)

-- ---- values out of range

-- what a statement sets
abbrev pub sets_of : Option Bound → List Assign
sets_of None = []
sets_of (Some (Select tables ons pred items)) = []
sets_of (Some (Group of pred key aggregate)) = []
sets_of (Some (Insert of row)) = []
sets_of (Some (Update of sets pred)) = sets
sets_of (Some (Delete of pred)) = []
sets_of (Some (Savepoint name)) = []
sets_of (Some (RollbackTo name)) = []
sets_of (Some (Release name)) = []

-- of which row a value went out of range
unfoldable pub out_line : Script → TxnOutcome → ℕ → ℕ → List ℕ
out_line script txn table pos = refused_text script txn ++ codes " takes a value of" ++ row_text script table pos ++ codes " out of 64 bits.\n"

-- which columns go out of 64 bits
abbrev pub going_out_text : List Column → (ℕ → Bool) → List ℕ
going_out_text columns test = codes ": by its values " ++ names_where test columns ++ codes " goes out.\n"

-- which columns of the row of the start are taken out of 64 bits; if none is, the transaction had changed it before
unfoldable pub out_text : List Column → List Assign → List Value → List ℕ
out_text columns sets row =
    if list_any (is_out row) sets then going_out_text columns (goes_out_in sets row)
    else codes ", and the transaction had changed it.\n"

-- a row that stood at the start of a transaction
abbrev pub stood_text : Script → Label → List Value → List ℕ
stood_text script label row = codes "There stood " ++ printed_row row ++ codes " at the start of " ++ named script label

-- what stood there at the start of the transaction
unfoldable pub origin_line : Script → Label → List Column → List Assign → Cell → List ℕ
origin_line script label columns sets None = codes "No row stood there at the start of " ++ named script label ++ codes ", which had inserted it.\n"
origin_line script label columns sets (Some row) =
    stood_text script label row ++ out_text columns sets row

abbrev pub range_text : Script → Outcome → TxnOutcome → ℕ → ℕ → List ℕ
range_text script outcome txn table pos =
    out_line script txn table pos
    ++ origin_line script txn.label (columns_at script.catalog table) (sets_of (refused_statement script txn))
    (cell_before script.rows outcome.order txn.start table pos)

-- ---- full tables

-- the row that a statement was to insert
unfoldable pub inserted_text : Option Bound → List ℕ
inserted_text None = []
inserted_text (Some (Select tables ons pred items)) = []
inserted_text (Some (Group of pred key aggregate)) = []
inserted_text (Some (Insert of row)) = codes " " ++ printed_row row
inserted_text (Some (Update of sets pred)) = []
inserted_text (Some (Delete of pred)) = []
inserted_text (Some (Savepoint name)) = []
inserted_text (Some (RollbackTo name)) = []
inserted_text (Some (Release name)) = []

-- which row found no place
unfoldable pub insert_line : Script → TxnOutcome → ℕ → List ℕ
insert_line script txn table =
    refused_text script txn ++ codes " was to insert" ++ inserted_text (refused_statement script txn) ++ codes " into "
    ++ table_name script.catalog table ++ codes ", which has no place for it.\n"

-- how many places a table has, and how many rows it had at first
unfoldable pub places_line : Script → ℕ → List ℕ
places_line script table =
    codes "It has " ++ decimal script.options.chunks ++ codes " chunks of " ++ decimal script.options.rows ++ codes " rows, and its first rows are "
    ++ decimal (length (slice_index_or script.rows table [])) ++ codes ".\n"

-- how many places one took, if it took some and may have been in the way
unfoldable pub taken_line : Script → Label → ℕ → Bool → List ℕ
taken_line script label zero in_the_way = []
taken_line script label (suc before) false = []
taken_line script label (suc before) true = named script label ++ codes " took " ++ decimal (suc before) ++ codes ".\n"

abbrev pub taken_by : Script → Outcome → TxnOutcome → ℕ → TxnOutcome → List ℕ
taken_by script outcome txn table other = taken_line script other.label (slice_index_or other.placed table 0) (may_take_room outcome txn other)

abbrev pub full_text : Script → Outcome → TxnOutcome → ℕ → List ℕ
full_text script outcome txn table =
    insert_line script txn table ++ places_line script table ++ flat_map (taken_by script outcome txn table) outcome.txns

-- ---- the whole

-- what a refusal stands for, and an empty line
unfoldable pub refusal_text : Script → Outcome → TxnOutcome → Ending → List ℕ
refusal_text script outcome txn (Committed rank) = []
refusal_text script outcome txn Read = []
refusal_text script outcome txn RolledBack = []
refusal_text script outcome txn (Conflict table pos other) = line (conflict_text script outcome txn table pos other)
refusal_text script outcome txn (Invalid table pos other number) = line (invalid_text script outcome txn.label table pos other number)
refusal_text script outcome txn (Range table pos) = line (range_text script outcome txn table pos)
refusal_text script outcome txn (Full table) = line (full_text script outcome txn table)

-- of each transaction
abbrev pub txn_explained : Script → Outcome → TxnOutcome → List ℕ
txn_explained script outcome txn = refusal_text script outcome txn txn.ending

-- what `explain` writes of an outcome
abbrev pub explained_text : Script → Outcome → List ℕ
explained_text script outcome = flat_map (txn_explained script outcome) outcome.txns ++ line (codes "end")
