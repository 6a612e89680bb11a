-- To be of the types of a table's columns is a test of rows, which the first rows pass, and those that statements write.
use Rattle.std.proofs.Common.{◌≡◌, ℕ, zero, suc, ◌<◌, List, [], ◌∷◌, Option, None, Some, Bool, true, false, Result, Ok, Err, length, get_or, refl, arith}
use Rattle.std.proofs.Math.ListN.{set}
use Rattle.std.specs.Prelude.{◌&&◌, IfSome, slice_index_or}
use Rattle.std.specs.List.{All, AllByRecursion, AllZip}
use Rattle.std.proofs.lemmas.Bool.{and_from, and_parts}
use Rattle.std.proofs.lemmas.List.Elements.{recursion_from_All}
use Rattle.hy_value.specs.declared.Kind.{Kind}
use Rattle.hy_value.specs.declared.Kind.TheVariants as kind
use Rattle.hy_value.specs.declared.Value.{Value}
use Rattle.hy_value.specs.declared.Value.TheVariants as value
use Rattle.hy_bound.specs.declared.Assign.{Assign}
use Rattle.hy_bound.specs.declared.Bound.{Bound}
use Rattle.hy_bound.specs.declared.Bound.TheVariants.{Select, Group, Insert, Update, Delete, Savepoint, RollbackTo, Release}
use Rattle.hy_bound.specs.declared.Range.{Range}
use Rattle.hy_bound.specs.declared.Shape.{Shape}
use Rattle.hy_bound.specs.Assignment.{assigned_to, set_column, value_of}
use Rattle.hy_bound.specs.Records.{shape_of}
use Rattle.hy_column.specs.Cells.{FitsKind}
use Rattle.hy_chunk.specs.Sound.{FitsRow}
use Rattle.hy_chunk.specs.Writes.{FitsSets}
use Rattle.hy_machine.specs.declared.Setting.{Setting}
use Rattle.hy_lawful.specs.Rows.{StatementMeets, SettingMeets, passes}
use Rattle.hy_stepping.specs.Typed.{AreTyped, kinds_of, IsTypedIn}

-- ---- a test of rows

abbrev is_of_kind : Kind → Value → Bool
is_of_kind kind.Int value.Null = true
is_of_kind kind.Int (value.Int number) = true
is_of_kind kind.Int (value.Text text) = false
is_of_kind kind.Str value.Null = true
is_of_kind kind.Str (value.Int number) = false
is_of_kind kind.Str (value.Text text) = true

abbrev is_of_kinds : List Kind → List Value → Bool
is_of_kinds [] [] = true
is_of_kinds [] (value ∷ row) = false
is_of_kinds (kind ∷ kinds) [] = false
is_of_kinds (kind ∷ kinds) (value ∷ row) = is_of_kind kind value && is_of_kinds kinds row

-- whether a row is of the types of its table's columns
abbrev pub is_typed : List (List Kind) → ℕ → List Value → Bool
is_typed kinds table row = is_of_kinds (kinds_of kinds table) row

kind_passes : (kind : Kind) (value : Value) → FitsKind kind value → is_of_kind kind value ≡ true
kind_passes kind.Int value.Null h = refl
kind_passes kind.Int (value.Int number) h = refl
kind_passes kind.Int (value.Text text) h = absurd h
kind_passes kind.Str value.Null h = refl
kind_passes kind.Str (value.Int number) h = absurd h
kind_passes kind.Str (value.Text text) h = refl

row_passes : (kinds : List Kind) (row : List Value) → FitsRow kinds row → is_of_kinds kinds row ≡ true
row_passes [] [] h = refl
row_passes [] (value ∷ row) h = absurd h
row_passes (kind ∷ kinds) [] h = absurd h
row_passes (kind ∷ kinds) (value ∷ row) h =
    and_from (is_of_kind kind value) (is_of_kinds kinds row) (kind_passes kind value h.0) (row_passes kinds row h.1)

kind_fits : (kind : Kind) (value : Value) → is_of_kind kind value ≡ true → FitsKind kind value
kind_fits kind.Int value.Null e = tt
kind_fits kind.Int (value.Int number) e = tt
kind_fits kind.Int (value.Text text) e = absurd cc
kind_fits kind.Str value.Null e = tt
kind_fits kind.Str (value.Int number) e = absurd cc
kind_fits kind.Str (value.Text text) e = tt

-- a row that passes is of these types
pub row_fits : (kinds : List Kind) (row : List Value) → is_of_kinds kinds row ≡ true → FitsRow kinds row
row_fits [] [] e = tt
row_fits [] (value ∷ row) e = absurd cc
row_fits (kind ∷ kinds) [] e = absurd cc
row_fits (kind ∷ kinds) (value ∷ row) e =
    let parts = and_parts (is_of_kind kind value) (is_of_kinds kinds row) e in
    (kind_fits kind value parts.0, row_fits kinds row parts.1)

-- ---- what an UPDATE makes of a row

set_fits : (kinds : List Kind) (row : List Value) (column : ℕ) (value : Value) → FitsRow kinds row → FitsKind (slice_index_or kinds column kind.Int) value
    → column < length kinds → FitsRow kinds (set row column value)
set_fits [] [] column value h k below = absurd (omega (arith, below))
set_fits [] (old ∷ row) column value h k below = absurd h
set_fits (kind ∷ kinds) [] column value h k below = absurd h
set_fits (kind ∷ kinds) (old ∷ row) zero value h k below = (k, h.1)
set_fits (kind ∷ kinds) (old ∷ row) (suc column) value h k below = (h.0, set_fits kinds row column value h.1 k (omega (arith, below)))

none_assigned : (kinds : List Kind) (sets : List Assign) (old : List Value) → IfSome (assigned_to sets old None) (FitsRow kinds)
none_assigned kinds [] old = tt
none_assigned kinds (assign ∷ sets) old = tt

assigned_fits : (kinds : List Kind) (key : Option ℕ) (sets : List Assign) (old new : List Value) → FitsSets kinds key sets
    → FitsRow kinds old → FitsRow kinds new → IfSome (assigned_to sets old (Some new)) (FitsRow kinds)
assigned_fits kinds key [] old new fits h k = k
assigned_fits kinds key (assign ∷ sets) old new fits h k = by_value (value_of assign.value old) (λ value e.
    assigned_fits kinds key sets old (set new assign.column value) fits.1 h
    (set_fits kinds new assign.column value k (fits.0.typed old value h e) fits.0.column)) refl
  where
    by_value : (result : Result Value Range)
        → ((value : Value) → value_of assign.value old ≡ Ok value
        → IfSome (assigned_to sets old (Some (set new assign.column value))) (FitsRow kinds))
        → value_of assign.value old ≡ result → IfSome (assigned_to sets old (set_column new assign.column result)) (FitsRow kinds)
    by_value (Err range) more e = none_assigned kinds sets old
    by_value (Ok value) more e = more value e

may_pass : (kinds : List Kind) (row : Option (List Value)) → IfSome row (FitsRow kinds) → IfSome row (λ (row : List Value). is_of_kinds kinds row ≡ true)
may_pass kinds None h = tt
may_pass kinds (Some row) h = row_passes kinds row h

-- ---- what is run

statement_passes : (kinds : List (List Kind)) (shapes : List Shape) (statement : Bound) → IsTypedIn kinds shapes statement
    → StatementMeets (passes (is_typed kinds)) statement
statement_passes kinds shapes (Select tables ons pred items) typed = tt
statement_passes kinds shapes (Group table pred key aggregate) typed = tt
statement_passes kinds shapes (Insert table row) typed = row_passes (kinds_of kinds table) row typed
statement_passes kinds shapes (Update table sets pred) typed = λ row h.
    let fits = row_fits (kinds_of kinds table) row h in
    may_pass (kinds_of kinds table) (assigned_to sets row (Some row))
    (assigned_fits (kinds_of kinds table) (shape_of shapes table).key sets row row typed fits fits)
statement_passes kinds shapes (Delete table pred) typed = tt
statement_passes kinds shapes (Savepoint name) typed = tt
statement_passes kinds shapes (RollbackTo name) typed = tt
statement_passes kinds shapes (Release name) typed = tt

rows_pass : (kinds : List Kind) (rows : List (List Value)) → AllByRecursion (FitsRow kinds) rows
    → AllByRecursion (λ (row : List Value). is_of_kinds kinds row ≡ true) rows
rows_pass kinds [] h = tt
rows_pass kinds (row ∷ rows) h = (row_passes kinds row h.0, rows_pass kinds rows h.1)

first_passes : (kinds : List (List Kind)) (first : List (List (List Value)))
    → AllZip (λ (types : List Kind) (rows : List (List Value)). All (FitsRow types) rows) kinds first → (table : ℕ)
    → AllByRecursion (λ (row : List Value). is_of_kinds (kinds_of kinds table) row ≡ true) (get_or first table [])
first_passes [] [] fit table = tt
first_passes [] (rows ∷ first) fit table = absurd fit
first_passes (types ∷ kinds) [] fit table = absurd fit
first_passes (types ∷ kinds) (rows ∷ first) fit zero = rows_pass types rows (recursion_from_All (FitsRow types) rows fit.0)
first_passes (types ∷ kinds) (rows ∷ first) fit (suc table) = first_passes kinds first fit.1 table

-- the first rows pass, and so do the rows that the statements write
pub begins_typed : (kinds : List (List Kind)) (setting : Setting) → AreTyped kinds setting.shapes setting.first setting.programs
    → SettingMeets (passes (is_typed kinds)) setting
begins_typed kinds setting typed = record {
  first_rows = first_passes kinds setting.first typed.rows;
  statements = λ session none below txn nothing within statement blank there.
      statement_passes kinds setting.shapes (get_or (get_or (get_or setting.programs session none) txn nothing).statements statement blank)
      (typed.statements session none below txn nothing within statement blank there);
}
