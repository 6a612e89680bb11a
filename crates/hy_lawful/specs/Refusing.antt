-- Why a statement is refused: it selects a row, or a value goes out of range for one that it selects, or its row is new and
-- there is no room.
use Rattle.std.specs.Prelude.{◌≡◌, ℕ, ◌+◌, ◌≤◌, List, Bool, false, ◌&&◌, ◌||◌, ◌==◌, Option, None, Some, is_some, is_none, IfSome, IsTrue, IsFalse}
use Rattle.std.specs.Prelude.{drop, slice_get}
use Rattle.std.specs.List.{list_any}
use Rattle.std.specs.Option.{IsSomeAnd}
use Rattle.hy_value.specs.declared.Value.{Value}
use Rattle.hy_bound.specs.declared.Bound.{Bound}
use Rattle.hy_bound.specs.declared.Bound.TheVariants.{Select, Group, Insert, Update, Delete, Savepoint, RollbackTo, Release}
use Rattle.hy_bound.specs.Predicate.{truth_of}
use Rattle.hy_bound.specs.Assignment.{assigned}
use Rattle.hy_bound.specs.declared.Shape.{Shape}
use Rattle.hy_bound.specs.Records.{shape_of}
use Rattle.hy_meaning.specs.Statement.{has_key_of}
use Rattle.hy_bound.specs.declared.Ending.{Ending}
use Rattle.hy_bound.specs.declared.Ending.TheVariants.{Committed, Read, RolledBack, Conflict, Invalid, Range, Full}
use Rattle.hy_render.specs.declared.TxnOutcome.{TxnOutcome}
use Rattle.hy_render.specs.declared.Committed.{Committed as Entry}
use Rattle.hy_render.specs.declared.Outcome.{Outcome}
use Rattle.hy_stamp.specs.declared.Label.{Label}
use Rattle.hy_machine.specs.declared.Setting.{Setting}
use Rattle.hy_machine.specs.Positions.{item_at}
use Rattle.hy_machine.specs.Tables.{Cell, Tables}
use Rattle.hy_machine.specs.Turns.{rows_seen}
use Rattle.hy_machine.specs.Validation.{first_hit}
use Rattle.hy_lawful.specs.Outcomes.{outcome_at, committed_at, refused_statement}
use Rattle.hy_lawful.specs.Cells.{cell_at}
use Rattle.hy_lawful.specs.Databases.{logged_by, rows_left}
use Rattle.hy_lawful.specs.Passing.{has_place, ChangesLieApart}
use Rattle.hy_lawful.specs.Overlaps.{reaches, may_overlap, stands_before}
use Rattle.hy_lawful.specs.Written.{would_write, followed, some_inserted, answered_statements}

-- whether a statement, if it is there, is an UPDATE of a table that selects a row, and a value of this goes out of range
abbrev pub goes_out : ℕ → Option Bound → List Value → Bool
goes_out table None row = false
goes_out table (Some (Select tables ons pred items)) row = false
goes_out table (Some (Group of pred key aggregate)) row = false
goes_out table (Some (Insert of new)) row = false
goes_out table (Some (Update of sets pred)) row = of == table && truth_of pred row && is_none (assigned sets row)
goes_out table (Some (Delete of pred)) row = false
goes_out table (Some (Savepoint name)) row = false
goes_out table (Some (RollbackTo name)) row = false
goes_out table (Some (Release name)) row = false

abbrev pub goes_out_at : ℕ → Option Bound → Cell → Bool
goes_out_at table statement None = false
goes_out_at table statement (Some row) = goes_out table statement row

-- whether a statement, if it is there, is an INSERT into a table of a row whose key one of these rows has
abbrev pub finds_key : List Shape → ℕ → Option Bound → List (List Value) → Bool
finds_key shapes table None rows = false
finds_key shapes table (Some (Select tables ons pred items)) rows = false
finds_key shapes table (Some (Group of pred key aggregate)) rows = false
finds_key shapes table (Some (Insert of new)) rows = of == table && list_any (has_key_of new (shape_of shapes table).key) rows
finds_key shapes table (Some (Update of sets pred)) rows = false
finds_key shapes table (Some (Delete of pred)) rows = false
finds_key shapes table (Some (Savepoint name)) rows = false
finds_key shapes table (Some (RollbackTo name)) rows = false
finds_key shapes table (Some (Release name)) rows = false

-- the refused statement of a transaction, by the tables that it saw and those that its answered statements left: by a
-- conflict over a row that it selects, by a value that goes out of range, or by want of room for a row whose key isn't there
abbrev pub WasRefused : List Shape → Tables → Tables → Option Bound → Ending → Type 0
WasRefused shapes seen left statement (Committed rank) = Unit {0}
WasRefused shapes seen left statement Read = Unit {0}
WasRefused shapes seen left statement RolledBack = Unit {0}
WasRefused shapes seen left statement (Conflict table pos other) = IsTrue (would_write table statement (item_at seen table pos))
WasRefused shapes seen left statement (Invalid table pos other number) = Unit {0}
WasRefused shapes seen left statement (Range table pos) =
    IsTrue (goes_out_at table statement (item_at left table pos)) × (item_at left table pos ≡ item_at seen table pos)
WasRefused shapes seen left statement (Full table) = IsFalse (finds_key shapes table statement (rows_seen left table))

-- conflict: the refused statement selects the row of the start at this position, which the transaction has not written,
-- and the one that is named has, where a row stood at its own start too; that one may have been open with it, and does not
-- stand in the order before its start
pub record IsInConflictAt (setting : Setting) (outcome : Outcome) (txn : TxnOutcome) (table pos : ℕ) (other : Label) : Type 0 where
  pub selects : IsTrue (would_write table (refused_statement setting.programs txn) (cell_at setting outcome.order txn.start table pos))
  pub not_own : IsFalse (has_place txn.wrote table pos)
  pub wrote : IsSomeAnd (outcome_at outcome other) (λ (rival : TxnOutcome). IsTrue (has_place rival.wrote table pos))
  pub found : IsSomeAnd (outcome_at outcome other)
      (λ (rival : TxnOutcome). IsTrue (is_some (cell_at setting outcome.order rival.start table pos)))
  pub overlaps : IsSomeAnd (outcome_at outcome other) (λ (rival : TxnOutcome). IsTrue (may_overlap outcome rival txn))
  pub not_before : IsSomeAnd (outcome_at outcome other) (λ (rival : TxnOutcome). IsFalse (stands_before txn.start rival))

-- what has committed at a rank did so before a transaction ended, as far as starts tell
abbrev pub IsMetBy : Outcome → TxnOutcome → TxnOutcome → Type 0
IsMetBy outcome txn other = IsSomeAnd (committed_at other.ending) (λ (rank : ℕ). IsTrue (reaches outcome txn (rank + 1)))

-- no entry from a transaction's start on, up to the one that has committed as this, changed a position that it wrote
abbrev pub IsLeftAloneTo : Outcome → TxnOutcome → TxnOutcome → Type 0
IsLeftAloneTo outcome txn other = IsSomeAnd (committed_at other.ending)
    (λ (rank : ℕ). (at : ℕ) → txn.start ≤ at → at ≤ rank → IfSome (slice_get outcome.order at) (ChangesLieApart txn.wrote))

-- invalid: the first hit of what the transaction logs alone by the entries from its start on is this one; that entry came
-- before it ended, and up to it none from the start on changed what the transaction wrote
pub record IsInvalidAt (setting : Setting) (outcome : Outcome) (txn : TxnOutcome) (table pos : ℕ) (other : Label) (statement : ℕ) : Type 0 where
  pub hit : first_hit (logged_by setting outcome.order txn) (drop txn.start outcome.order) ≡ Some (Invalid table pos other statement)
  pub met : IsSomeAnd (outcome_at outcome other) (IsMetBy outcome txn)
  pub left_alone : IsSomeAnd (outcome_at outcome other) (IsLeftAloneTo outcome txn)

-- out of range: a value goes out of range for some row that the answered statements leave alone; at this position, it
-- does so for the row of the start, followed through these; or no row stood there, the transaction has written it, and the
-- value goes out of range for a row that it inserted, followed through the statements behind
pub record IsOutOfRangeAt (setting : Setting) (order : List Entry) (txn : TxnOutcome) (table pos : ℕ) : Type 0 where
  pub some : IsTrue (list_any (goes_out table (refused_statement setting.programs txn)) (rows_left setting order txn table))
  pub here : IsTrue (goes_out_at table (refused_statement setting.programs txn)
      (followed table (answered_statements setting.programs txn) (cell_at setting order txn.start table pos))
      || (is_none (cell_at setting order txn.start table pos) && (has_place txn.wrote table pos
      && some_inserted (goes_out_at table (refused_statement setting.programs txn)) table (answered_statements setting.programs txn) txn.replies)))

-- full: no row that the answered statements leave alone has the key of the row that was to be inserted
abbrev pub IsNewRow : Setting → List Entry → TxnOutcome → ℕ → Type 0
IsNewRow setting order txn table =
    IsFalse (finds_key setting.shapes table (refused_statement setting.programs txn) (rows_left setting order txn table))

-- why a transaction ends that was refused: a conflict, a hit, a value out of range, or a new row without room
abbrev pub IsRefusedBy : Setting → Outcome → TxnOutcome → Ending → Type 0
IsRefusedBy setting outcome txn (Committed rank) = Unit {0}
IsRefusedBy setting outcome txn Read = Unit {0}
IsRefusedBy setting outcome txn RolledBack = Unit {0}
IsRefusedBy setting outcome txn (Conflict table pos other) = IsInConflictAt setting outcome txn table pos other
IsRefusedBy setting outcome txn (Invalid table pos other statement) = IsInvalidAt setting outcome txn table pos other statement
IsRefusedBy setting outcome txn (Range table pos) = IsOutOfRangeAt setting outcome.order txn table pos
IsRefusedBy setting outcome txn (Full table) = IsNewRow setting outcome.order txn table
