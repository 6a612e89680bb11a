-- Rows that have the keys of the rows that stood at their positions at a transaction's start: those that it sees, what an UPDATE
-- makes of them, and the row of an INSERT, which comes where none stood.
use Rattle.std.proofs.Common.{◌≡◌, ◌≢◌, ℕ, zero, suc, List, [], ◌∷◌, Option, None, Some, Result, Ok, Err, get_or, true}
use Rattle.std.proofs.Common.{Bool, false, cond, refl, ap, sym, ◌∙◌, subst, inl, inr, ◌⊎◌}
use Rattle.std.proofs.Math.ListN.{set}
use Rattle.std.specs.List.{AllByRecursion}
use Rattle.std.specs.Option.{option_map}
use Rattle.std.proofs.lemmas.List.{get_or-set_other}
use Rattle.std.proofs.lemmas.Option.{same_Some}
use Rattle.hy_value.specs.declared.Value.{Value}
use Rattle.hy_value.specs.declared.Value.TheVariants.{Null}
use Rattle.hy_bound.specs.declared.Assign.{Assign}
use Rattle.hy_bound.specs.declared.Range.{Range}
use Rattle.hy_bound.specs.declared.WriteKind.{WriteKind}
use Rattle.hy_bound.specs.declared.WriteKind.TheVariants as kind
use Rattle.hy_bound.specs.Assignment.{assigned, assigned_to, set_column, value_of}
use Rattle.hy_bound.specs.Condition.{Condition}
use Rattle.hy_bound.specs.Predicate.{column_of, truth_of}
use Rattle.hy_bound.specs.Records.{shape_of}
use Rattle.hy_stamp.specs.declared.Label.{Label}
use Rattle.hy_machine.specs.declared.Setting.{Setting}
use Rattle.hy_machine.specs.States.{State}
use Rattle.hy_machine.specs.Tables.{Cell, Tables, Own, capacity, covered, over}
use Rattle.hy_machine.specs.Writes.{Write, blank_own, with_write, with_writes}
use Rattle.hy_machine.specs.Positions.{item_at}
use Rattle.hy_machine.specs.Sessions.{snapshot}
use Rattle.hy_machine.specs.Visits.{new_cell, judged, verdict}
use Rattle.hy_lawful.proofs.Fits.{FitsTables}
use Rattle.hy_lawful.proofs.PassSteps.{blank_items}
use Rattle.hy_lawful.proofs.PassTables.{tables_are, covered_at}

-- ---- keys

-- a row has the key of another one of its table
abbrev pub SameKey : Setting → ℕ → List Value → List Value → Type 0
SameKey setting table row other = (column : ℕ) → (shape_of setting.shapes table).key ≡ Some column → column_of row column ≡ column_of other column

-- a cell's row has the key of the row that stood at its position at the start, where both are there
abbrev pub KeepsKey : Setting → Tables → ℕ → ℕ → Cell → Type 0
KeepsKey setting start table pos cell = (row new : List Value) → item_at start table pos ≡ Some row → cell ≡ Some new → SameKey setting table new row

abbrev pub WritesKeep : Setting → Tables → List Write → Type 0
WritesKeep setting start writes = AllByRecursion (λ (write : Write). KeepsKey setting start write.table write.pos write.cell) writes

abbrev pub OwnKeeps : Setting → Tables → Own → Type 0
OwnKeeps setting start own = (table pos : ℕ) (cell : Cell) → item_at own table pos ≡ Some cell → KeepsKey setting start table pos cell

-- ---- what was written

cell_put : (cells : List (Option Cell)) (at : ℕ) (cell : Cell) (pos : ℕ) (other : Cell) → get_or (set cells at (Some cell)) pos None ≡ Some other
    → (get_or cells pos None ≡ Some other) ⊎ ((pos ≡ at) × (cell ≡ other))
cell_put [] at cell pos other e = absurd cc
cell_put (one ∷ cells) zero cell zero other e = inr (refl, same_Some cell other e)
cell_put (one ∷ cells) zero cell (suc pos) other e = inl e
cell_put (one ∷ cells) (suc at) cell zero other e = inl e
cell_put (one ∷ cells) (suc at) cell (suc pos) other e = elim (cell_put cells at cell pos other e) [
  | inl old ↦ inl old
  | inr new ↦ inr (ap suc new.0, new.1)
]

own_put : (own : Own) (of at : ℕ) (cell : Cell) (table pos : ℕ) (other : Cell)
    → item_at (set own of (set (get_or own of []) at (Some cell))) table pos ≡ Some other
    → (item_at own table pos ≡ Some other) ⊎ ((table ≡ of) × ((pos ≡ at) × (cell ≡ other)))
own_put [] of at cell table pos other e = absurd cc
own_put (cells ∷ own) zero at cell zero pos other e = elim (cell_put cells at cell pos other e) [
  | inl old ↦ inl old
  | inr new ↦ inr (refl, new)
]
own_put (cells ∷ own) zero at cell (suc table) pos other e = inl e
own_put (cells ∷ own) (suc of) at cell zero pos other e = inl e
own_put (cells ∷ own) (suc of) at cell (suc table) pos other e = elim (own_put own of at cell table pos other e) [
  | inl old ↦ inl old
  | inr new ↦ inr (ap suc new.0, new.1)
]

-- what holds of each cell that is own, and of each write, holds of what is own then
cells_written : (P : ℕ → ℕ → Cell → Type 0) (writes : List Write) (own : Own)
    → AllByRecursion (λ (write : Write). P write.table write.pos write.cell) writes
    → ((table pos : ℕ) (cell : Cell) → item_at own table pos ≡ Some cell → P table pos cell)
    → (table pos : ℕ) (cell : Cell) → item_at (with_writes own writes) table pos ≡ Some cell → P table pos cell
cells_written P [] own all old = old
cells_written P (write ∷ writes) own all old =
    cells_written P writes (with_write own write) all.1
    (λ table pos cell e. elim (own_put own write.table write.pos write.cell table pos cell e) [
      | inl before ↦ old table pos cell before
      | inr here ↦ subst (λ (n : ℕ). P n pos cell) (sym here.0)
          (subst (λ (n : ℕ). P write.table n cell) (sym here.1.0) (subst (P write.table write.pos) here.1.1 all.0))
    ])

pub written_keeps : (setting : Setting) (start : Tables) (writes : List Write) → WritesKeep setting start writes
    → OwnKeeps setting start (with_writes (blank_own setting) writes)
written_keeps setting start writes all =
    cells_written (KeepsKey setting start) writes (blank_own setting) all
    (λ table pos cell e. absurd (let never : None ≡ Some cell = sym (blank_items (capacity setting) setting.first table pos) ∙ e in cc))

-- ---- what is seen

-- a row that is seen is own, or stood there at the start
pub seen_keeps : (setting : Setting) (state : State) (prefix : ℕ) (own : Own) → FitsTables setting own → OwnKeeps setting (snapshot setting state prefix) own
    → (table pos : ℕ) → KeepsKey setting (snapshot setting state prefix) table pos (item_at (over (snapshot setting state prefix) own) table pos)
seen_keeps setting state prefix own fits keeps table pos row new stood seen =
    by_own (item_at own table pos) refl
    (sym (covered_at setting (λ (own : Cell). own) start own (tables_are setting state.order prefix) fits table pos) ∙ seen)
  where
    start : Tables
    start = snapshot setting state prefix

    by_own : (item : Option Cell) → item_at own table pos ≡ item
        → covered (λ (own : Cell). own) (item_at (snapshot setting state prefix) table pos) (item_at own table pos) ≡ Some new → SameKey setting table new row
    by_own None o e column key =
        let same : row ≡ new = same_Some row new
        (sym stood ∙ (sym (ap (covered (λ (own : Cell). own) (item_at (snapshot setting state prefix) table pos)) o) ∙ e)) in
        ap (λ (one : List Value). column_of one column) (sym same)
    by_own (Some cell) o e column key =
        keeps table pos cell o row new stood
        (sym (ap (covered (λ (own : Cell). own) (item_at (snapshot setting state prefix) table pos)) o) ∙ e) column key

-- ---- what an UPDATE or a DELETE makes of it

-- it sets no column that is the key
abbrev pub KindSpares : Setting → ℕ → WriteKind → Type 0
KindSpares setting table (kind.Set sets) = AllByRecursion (λ (assign : Assign). (shape_of setting.shapes table).key ≢ Some assign.column) sets
KindSpares setting table kind.Delete = Unit {0}

none_stays : (sets : List Assign) (old made : List Value) → assigned_to sets old None ≡ Some made → ⊥
none_stays [] old made e = absurd cc
none_stays (assign ∷ sets) old made e = absurd cc

assigned_keeps : (key : Option ℕ) (column : ℕ) → key ≡ Some column → (sets : List Assign) (old now made : List Value)
    → AllByRecursion (λ (assign : Assign). key ≢ Some assign.column) sets → assigned_to sets old (Some now) ≡ Some made
    → column_of made column ≡ column_of now column
assigned_keeps key column k [] old now made spares e = ap (λ (one : List Value). column_of one column) (sym (same_Some now made e))
assigned_keeps key column k (assign ∷ sets) old now made spares e =
    by_value (value_of assign.value old) (λ value. assigned_keeps key column k sets old (set now assign.column value) made spares.1) e
  where
    by_value : (value : Result Value Range)
        → ((value : Value) → assigned_to sets old (Some (set now assign.column value)) ≡ Some made
        → column_of made column ≡ column_of (set now assign.column value) column)
        → assigned_to sets old (set_column now assign.column value) ≡ Some made → column_of made column ≡ column_of now column
    by_value (Err range) more f = absurd (none_stays sets old made f)
    by_value (Ok value) more f = more value f ∙ get_or-set_other now assign.column column value Null (λ same. spares.0 (k ∙ ap Some same))

made_keeps : (setting : Setting) (table : ℕ) (kind : WriteKind) (row made : List Value) → KindSpares setting table kind
    → new_cell kind row ≡ Some (Some made) → SameKey setting table made row
made_keeps setting table (kind.Set sets) row made spares e column key = by_row (assigned sets row) refl e
  where
    by_row : (given : Option (List Value)) → assigned sets row ≡ given → option_map Some given ≡ Some (Some made)
        → column_of made column ≡ column_of row column
    by_row None a f = absurd cc
    by_row (Some new) a f =
        let same : new ≡ made = same_Some new made (same_Some (Some new) (Some made) f) in
        assigned_keeps (shape_of setting.shapes table).key column key sets row row made spares (a ∙ ap Some same)
made_keeps setting table kind.Delete row made spares e column key = absurd (let never : None ≡ Some made = same_Some None (Some made) e in cc)

-- what is made of a position has its row's key
verdict_makes : (kind : WriteKind) (pred : Condition) (table pos : ℕ) (other : Option Label) (cell new : Cell)
    → verdict kind pred table pos other cell ≡ Ok (Some new) → (row : List Value) × ((cell ≡ Some row) × (new_cell kind row ≡ Some new))
verdict_makes kind pred table pos other None new e = absurd cc
verdict_makes kind pred table pos other (Some row) new e = (row, (refl, by_truth (truth_of pred row) e))
  where
    by_made : (other : Option Label) (made : Option Cell) → judged table pos other made ≡ Ok (Some new) → made ≡ Some new
    by_made (Some label) made h = absurd cc
    by_made None None h = absurd cc
    by_made None (Some cell) h = cc

    by_truth : (b : Bool) → cond b (judged table pos other (new_cell kind row)) (Ok None) ≡ Ok (Some new) → new_cell kind row ≡ Some new
    by_truth true h = by_made other (new_cell kind row) h
    by_truth false h = absurd cc

pub verdict_keeps : (setting : Setting) (start : Tables) (kind : WriteKind) (pred : Condition) (table pos : ℕ) (other : Option Label) (cell new : Cell)
    → KindSpares setting table kind → KeepsKey setting start table pos cell → verdict kind pred table pos other cell ≡ Ok (Some new)
    → KeepsKey setting start table pos new
verdict_keeps setting start kind pred table pos other cell new spares keeps v row made stood is column key =
    let makes = verdict_makes kind pred table pos other cell new v in
    made_keeps setting table kind makes.0 made spares (makes.1.1 ∙ ap Some is) column key ∙ keeps row makes.0 stood makes.1.0 column key
