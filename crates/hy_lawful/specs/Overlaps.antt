-- Which transactions may have been open at a time, and which may have taken room from another, as far as an outcome tells.
use Rattle.std.specs.Prelude.{◌≡◌, ℕ, ◌+◌, ◌≤◌, List, [], Bool, true, false, not, ◌&&◌, ◌||◌, ◌==◌, nat_lt, nat_le, IsTrue, Option, None, Some}
use Rattle.std.specs.Prelude.{slice_get, slice_index_or}
use Rattle.std.specs.Prelude.{length, filter, sum_by}
use Rattle.std.specs.List.{list_all}
use Rattle.std.specs.Option.{IsSomeAnd, option_map}
use Rattle.hy_stamp.specs.declared.Label.{Label}
use Rattle.hy_bound.specs.declared.Ending.{Ending}
use Rattle.hy_bound.specs.declared.Ending.TheVariants.{Committed, Read, RolledBack, Conflict, Invalid, Range, Full}
use Rattle.hy_render.specs.declared.TxnOutcome.{TxnOutcome}
use Rattle.hy_render.specs.declared.Outcome.{Outcome}
use Rattle.hy_machine.specs.declared.Setting.{Setting}
use Rattle.hy_machine.specs.States.{State, Open}
use Rattle.hy_machine.specs.Tables.{Entry, capacity}
use Rattle.hy_machine.specs.Sessions.{session_at, label_of}
use Rattle.hy_machine.specs.Outcomes.{outcome_of}
use Rattle.hy_machine.specs.Runs.{after_steps, IsReached, all_ended_from}
use Rattle.hy_lawful.specs.Outcomes.{is_label, outcome_at, committed_at, later_than}

-- whether a transaction stands in the commit order before a rank
abbrev pub is_below : ℕ → Option ℕ → Bool
is_below bound None = false
is_below bound (Some rank) = nat_lt rank bound

abbrev pub stands_before : ℕ → TxnOutcome → Bool
stands_before rank txn = is_below rank (committed_at txn.ending)

-- whether all later transactions of a transaction's session start at this rank or behind it: as far as starts tell, it
-- had not ended while the order was shorter
abbrev pub reaches : Outcome → TxnOutcome → ℕ → Bool
reaches outcome txn rank = list_all (λ (later : TxnOutcome). nat_le rank later.start) (later_than outcome txn)

-- whether two transactions may have been open at a time: they are of two sessions, and each reaches the other's start
abbrev pub may_overlap : Outcome → TxnOutcome → TxnOutcome → Bool
may_overlap outcome txn other =
    not (txn.label.session == other.label.session) && (reaches outcome txn other.start && reaches outcome other txn.start)

-- whether the inserts of a transaction may have been in the way of another's: it is the other itself, stands in the
-- order before the other's start, or may have been open with it
abbrev pub may_take_room : Outcome → TxnOutcome → TxnOutcome → Bool
may_take_room outcome other txn = is_label txn.label other.label || (stands_before other.start txn || may_overlap outcome txn other)

-- ---- those that are open at a time in the machine

-- the transactions of two labels have their outcomes, and may have been open at a time
abbrev pub MayOverlap : Outcome → Label → Label → Type 0
MayOverlap outcome label other =
    IsSomeAnd (outcome_at outcome label) (λ txn. IsSomeAnd (outcome_at outcome other) (λ rival. IsTrue (may_overlap outcome txn rival)))

-- a transaction is open, or its entry stands in the commit order at this rank or behind it
pub data IsThereSince (state : State) (from : ℕ) (other : Label) : Type 0 where
  is_open : (current : Open) → (session_at state other.session).now ≡ Some current → other ≡ label_of other.session (session_at state other.session)
      → IsThereSince state from other
  has_entered : (rank : ℕ) → from ≤ rank → option_map (λ (entry : Entry). entry.label) (slice_get state.order rank) ≡ Some other
      → IsThereSince state from other

-- while a transaction is open, one of another session that is open too, or that has come into the commit order since its
-- start, is one that may have been open with it, whatever steps are taken until all sessions have ended
abbrev pub OpenOnesOverlap : Type 0
OpenOnesOverlap = (setting : Setting) (state : State) (numbers : List ℕ) → IsReached setting state
    → all_ended_from setting 0 (after_steps setting state numbers).sessions ≡ true → (number : ℕ) (current : Open)
    → (session_at state number).now ≡ Some current → (other : Label) → (other.session ≡ number → ⊥) → IsThereSince state current.begun.prefix other
    → MayOverlap (outcome_of setting (after_steps setting state numbers)) (label_of number (session_at state number)) other

-- ---- full tables

-- a table is full for a transaction: its first rows, and what was placed in it by those that may have taken room, are at
-- least as many as its positions
abbrev pub IsFull : Setting → Outcome → TxnOutcome → ℕ → Type 0
IsFull setting outcome txn table =
    capacity setting ≤ length (slice_index_or setting.first table [])
    + sum_by (λ (other : TxnOutcome). slice_index_or other.placed table 0) (filter (may_take_room outcome txn) outcome.txns)

-- where an ending says that a table is full, it is
abbrev pub NamesFull : Setting → Outcome → TxnOutcome → Ending → Type 0
NamesFull setting outcome txn (Committed rank) = Unit {0}
NamesFull setting outcome txn Read = Unit {0}
NamesFull setting outcome txn RolledBack = Unit {0}
NamesFull setting outcome txn (Conflict table pos other) = Unit {0}
NamesFull setting outcome txn (Invalid table pos other statement) = Unit {0}
NamesFull setting outcome txn (Range table pos) = Unit {0}
NamesFull setting outcome txn (Full table) = IsFull setting outcome txn table
