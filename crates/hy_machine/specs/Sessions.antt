-- Where the sessions stand, what their transactions see, and what they would commit.
use Rattle.std.specs.Prelude.{ℕ, suc, List, [], ◌∷◌, Bool, Option, None, Some, ◌==◌, slice_index_or, slice_get, length, if◌then◌else◌, min, take}
use Rattle.hy_bound.specs.declared.Txn.{Txn}
use Rattle.hy_stamp.specs.declared.Label.{Label}
use Rattle.hy_machine.specs.declared.Setting.{Setting}
use Rattle.hy_machine.specs.States.{State, Session, Open, Begun}
use Rattle.hy_machine.specs.Tables.{Pair, Entry, Cell, Tables, Own, history, opening_tables, over}
use Rattle.hy_machine.specs.Positions.{item_at}

-- a session that has done nothing
abbrev pub fresh : Session
fresh = record { done = []; now = None }

abbrev pub session_at : State → ℕ → Session
session_at state number = slice_index_or state.sessions number fresh

-- the transactions of a session's script
abbrev pub program_of : Setting → ℕ → List Txn
program_of setting number = slice_index_or setting.programs number []

-- the transaction of its script that a session is at, if it isn't at its end
abbrev pub txn_at : Setting → ℕ → Session → Option Txn
txn_at setting number session = slice_get (program_of setting number) (length session.done)

-- the label of a session's transaction that is open or comes next
abbrev pub label_of : ℕ → Session → Label
label_of number session = record { session = number; txn = suc (length session.done) }

-- whether a session's script is at its end
abbrev pub has_ended : Setting → ℕ → Session → Bool
has_ended setting number session = length session.done == length (program_of setting number)

-- the transaction that stands between its entry and its end, if it is of another session
abbrev pub blocker_of : State → ℕ → Option ℕ → Option Label
blocker_of state number None = None
blocker_of state number (Some marked) = if marked == number then None else Some (label_of marked (session_at state marked))

abbrev pub blocker : State → ℕ → Option Label
blocker state number = blocker_of state number state.mark

-- the tables after the first entries of the commit order
abbrev pub snapshot : Setting → State → ℕ → Tables
snapshot setting state prefix = history (opening_tables setting) (take prefix state.order)

-- the tables that a transaction sees: those after the entries of its prefix, and its own writes over them
abbrev pub view : Setting → State → Begun → Tables
view setting state begun = over (snapshot setting state begun.prefix) begun.own

-- the prefix of an open transaction, or the other number where it is less
abbrev pub least_with : ℕ → Option Open → ℕ
least_with least None = least
least_with least (Some current) = min current.begun.prefix least

-- the least of a number and the prefixes of the open transactions
abbrev pub least_prefix : ℕ → List Session → ℕ
least_prefix least [] = least
least_prefix least (session ∷ sessions) = least_prefix (least_with least session.now) sessions

-- what an entry does at a position: the cell that its transaction saw at its start, and the one that it wrote
abbrev pub pair_of : Cell → Option Cell → Option Pair
pair_of before None = None
pair_of before (Some own) = Some (record { before = before; after = own })

abbrev pub pairs_from : (ℕ → Cell) → ℕ → List (Option Cell) → List (Option Pair)
pairs_from before pos [] = []
pairs_from before pos (own ∷ owns) = pair_of (before pos) own ∷ pairs_from before (suc pos) owns

abbrev pub entry_cells : Tables → ℕ → Own → List (List (Option Pair))
entry_cells tables table [] = []
entry_cells tables table (cells ∷ own) = pairs_from (item_at tables table) 0 cells ∷ entry_cells tables (suc table) own

-- what an open transaction would commit
abbrev pub entry_of : Setting → State → ℕ → Begun → Entry
entry_of setting state number begun = record {
  label = label_of number (session_at state number);
  cells = entry_cells (snapshot setting state begun.prefix) 0 begun.own;
}
