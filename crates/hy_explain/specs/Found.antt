-- What an outcome has of those that are named in a refusal: how the other one ended, its change, the row of the start.
use Rattle.std.specs.Prelude.{ℕ, zero, suc, List, [], ◌∷◌, Bool, ◌&&◌, ◌||◌, ◌==◌, nat_lt, not, Option, None, Some, is_some, is_err, length, find, take, flat_map, slice_get, slice_index_or, option_and_then}
use Rattle.std.specs.Ordering.{is_eq}
use Rattle.std.specs.List.{list_any}
use Rattle.hy_value.specs.declared.Value.{Value}
use Rattle.hy_value.specs.declared.ColMask.{ColMask}
use Rattle.hy_value.specs.Order.{value_cmp}
use Rattle.hy_value.specs.Columns.{has_column}
use Rattle.hy_value.specs.declared.change.Change.{Change}
use Rattle.hy_bound.specs.declared.Assign.{Assign}
use Rattle.hy_bound.specs.declared.Bound.{Bound}
use Rattle.hy_bound.specs.declared.Txn.{Txn}
use Rattle.hy_bound.specs.Predicate.{column_of}
use Rattle.hy_bound.specs.Assignment.{value_of}
use Rattle.hy_script.specs.declared.NamedTxns.{NamedTxns}
use Rattle.hy_script.specs.declared.Script.{Script}
use Rattle.hy_stamp.specs.declared.Label.{Label}
use Rattle.hy_render.specs.declared.TxnOutcome.{TxnOutcome}
use Rattle.hy_render.specs.declared.Committed.{Committed as Entry}
use Rattle.hy_render.specs.declared.Outcome.{Outcome}
use Rattle.hy_machine.specs.Tables.{Cell}
use Rattle.hy_lawful.specs.Scripts.{statements_in}
use Rattle.hy_lawful.specs.Outcomes.{outcome_at, committed_at}
use Rattle.hy_lawful.specs.Cells.{after_changes}

-- an item of a list, by its number from 1
abbrev pub item_numbered : {A : Type 0} → List A → ℕ → Option A
item_numbered items zero = None
item_numbered items (suc before) = slice_get items before

abbrev pub txns_in : Option NamedTxns → List Txn
txns_in None = []
txns_in (Some session) = session.txns

-- the statements of a transaction of a script
abbrev pub statements_at : Script → Label → List Bound
statements_at script label = statements_in (item_numbered (txns_in (slice_get script.sessions label.session)) label.txn)

-- one of them, by its number from 1
abbrev pub statement_at : Script → Label → ℕ → Option Bound
statement_at script label number = item_numbered (statements_at script label) number

-- the statement that was refused, if one was
abbrev pub refused_statement : Script → TxnOutcome → Option Bound
refused_statement script txn = slice_get (statements_at script txn.label) (length txn.replies)

-- the rank at which a transaction has committed, if it has
abbrev pub rank_of_txn : Option TxnOutcome → Option ℕ
rank_of_txn None = None
rank_of_txn (Some txn) = committed_at txn.ending

abbrev pub rank_of : Outcome → Label → Option ℕ
rank_of outcome label = rank_of_txn (outcome_at outcome label)

-- the changes of the entry at a rank
abbrev pub changes_in : Option Entry → List Change
changes_in None = []
changes_in (Some entry) = entry.changes

abbrev pub changes_at : List Entry → Option ℕ → List Change
changes_at order None = []
changes_at order (Some rank) = changes_in (slice_get order rank)

abbrev pub is_at : ℕ → ℕ → Change → Bool
is_at table pos change = change.table == table && change.pos == pos

-- the change of a position by a transaction that has committed
abbrev pub change_of : Outcome → Label → ℕ → ℕ → Option Change
change_of outcome label table pos = find (is_at table pos) (changes_at outcome.order (rank_of outcome label))

-- what stands at a position of tables with these first rows, after the entries before a rank
abbrev pub cell_before : List (List (List Value)) → List Entry → ℕ → ℕ → ℕ → Cell
cell_before first order rank table pos =
    after_changes table pos (slice_get (slice_index_or first table []) pos) (flat_map (λ (entry : Entry). entry.changes) (take rank order))

-- whether two rows differ in a column that both have
abbrev pub differs_at : List Value → List Value → ℕ → Bool
differs_at before after column =
    nat_lt column (length before) && (nat_lt column (length after) && not (is_eq (value_cmp (column_of before column) (column_of after column))))

-- whether two rows differ in a column of a set
abbrev pub differs_in : ColMask → List Value → List Value → ℕ → Bool
differs_in columns before after column = has_column columns column && differs_at before after column

-- whether what an assignment sets, or what it sets a column to, is out of 64 bits for a row
abbrev pub is_out : List Value → Assign → Bool
is_out row set = is_err (value_of set.value row)

abbrev pub is_out_of : List Value → ℕ → Assign → Bool
is_out_of row column set = set.column == column && is_out row set

-- whether SET takes a column of a row out of 64 bits
abbrev pub goes_out_in : List Assign → List Value → ℕ → Bool
goes_out_in sets row column = list_any (is_out_of row column) sets
