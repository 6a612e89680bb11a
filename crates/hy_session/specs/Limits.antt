-- What holds of a session at all times: its numbers fit, what it keeps for the next transaction's notes has none, the way
-- that it keeps is one in which the statement of its numbers is run, there is room for the end of an open transaction, and what
-- it wrote is in order.
use Rattle.std.specs.Prelude.{◌≡◌, ℕ, ◌*◌, ◌^◌, ◌<◌, ◌≤◌, List, [], Option, None, Some, length}
use Rattle.std.specs.List.{AllByRecursion}
use Rattle.hy_bound.specs.declared.Shape.{Shape}
use Rattle.hy_bound.specs.declared.Txn.{Txn}
use Rattle.hy_value.specs.declared.change.Change.{Change}
use Rattle.hy_notes.specs.Notes.{Ascends}
use Rattle.hy_event.specs.declared.Open.{Open}
use Rattle.hy_event.specs.declared.SavedNotes.{SavedNotes}
use Rattle.hy_limits.specs.declared.TheConstants.{MOST_TABLES, MOST_TXNS}
use Rattle.hy_session.specs.declared.prepared.Prepared.{Prepared}
use Rattle.hy_session.specs.Preparing.{IsKept}
use Rattle.hy_session.specs.Seeking.{Rises}

-- a table has a chunk, all chunks have numbers of 32 bits, there are at most as many tables and transactions as may be, no
-- more have ended than there are, nothing is noted in what is spare, and the statement that is prepared is run so
pub record IsLimited (chunks : ℕ) (shapes : List Shape) (program : List Txn) (ended : ℕ) (spare : List Change) (levels : List (List Change))
    (prepared : Option Prepared) : Type 0 where
  pub some_chunk : 0 < chunks
  pub few_chunks : length shapes * chunks < 2 ^ 32
  pub few_tables : length shapes ≤ MOST_TABLES
  pub few_txns : length program ≤ MOST_TXNS
  pub few_ended : ended ≤ length program
  pub none_noted : spare ≡ []
  pub none_saved : levels ≡ []
  pub kept : IsKept shapes program prepared

-- there is room for one more outcome, and for a count for each table
pub record HasRoom (tables ended outcomes : ℕ) (counts : List ℕ) (room : ℕ) : Type 0 where
  pub outcome : ended < outcomes
  pub none_counted : counts ≡ []
  pub count : tables ≤ room

-- so while a transaction is open: its end takes no memory
abbrev pub HasRoomFor : Option Open → ℕ → ℕ → ℕ → List ℕ → ℕ → Type 0
HasRoomFor None tables ended outcomes counts room = Unit {0}
HasRoomFor (Some now) tables ended outcomes counts room = HasRoom tables ended outcomes counts room

-- what is noted since savepoints is in order
abbrev pub IsSavedInOrder : List SavedNotes → Type 0
IsSavedInOrder saved = AllByRecursion (λ (one : SavedNotes). Ascends one.since) saved

-- what an open transaction notes is in order, since each savepoint too, and so are the positions that it wrote by its entry
pub record IsInOrder (now : Open) : Type 0 where
  pub notes : Ascends now.notes
  pub saved : IsSavedInOrder now.saved
  pub wrote : Rises now.wrote

abbrev pub HasOrder : Option Open → Type 0
HasOrder None = Unit {0}
HasOrder (Some now) = IsInOrder now
