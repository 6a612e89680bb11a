-- That the texts of a row are UTF-8 is a test of rows, which the first rows pass, and those that statements write.
use Rattle.std.proofs.Common.{◌≡◌, ℕ, zero, suc, ℤ, List, [], ◌∷◌, Option, None, Some, Bool, true, false, cond, Result, Ok, Err, get_or, refl, subst}
use Rattle.std.proofs.Math.ListN.{set}
use Rattle.std.specs.Prelude.{◌&&◌, ◌+ℤ◌, ◌-ℤ◌, ◌*ℤ◌, IfSome}
use Rattle.std.specs.List.{All, AllByRecursion}
use Rattle.std.specs.Str.{is_utf8}
use Rattle.std.proofs.lemmas.Bool.{and_from, and_parts}
use Rattle.std.proofs.lemmas.List.Elements.{recursion_from_All}
use Rattle.std.proofs.lemmas.Str.{IsUtf8-from_is_utf8, is_utf8-from_IsUtf8}
use Rattle.hy_value.specs.declared.Kind.{Kind}
use Rattle.hy_value.specs.declared.Kind.TheVariants as kind
use Rattle.hy_value.specs.declared.Value.{Value}
use Rattle.hy_value.specs.declared.Value.TheVariants as value
use Rattle.hy_bound.specs.declared.Assign.{Assign}
use Rattle.hy_bound.specs.declared.Bound.{Bound}
use Rattle.hy_bound.specs.declared.Bound.TheVariants.{Select, Group, Insert, Update, Delete, Savepoint, RollbackTo, Release}
use Rattle.hy_bound.specs.declared.Range.{Range}
use Rattle.hy_bound.specs.Expression.{Expression, Literal, Column, Add, Sub, Mul}
use Rattle.hy_bound.specs.Predicate.{column_of}
use Rattle.hy_bound.specs.Assignment.{assigned_to, has_64_bits, number_of, set_column, value_of}
use Rattle.hy_column.specs.Cells.{FitsKind}
use Rattle.hy_chunk.specs.Sound.{FitsRow}
use Rattle.hy_log_record.specs.Bodies.{IsOfKind, AreOfKinds, IsRowOf}
use Rattle.hy_machine.specs.declared.Setting.{Setting}
use Rattle.hy_machine.specs.Tables.{Cell}
use Rattle.hy_lawful.specs.Rows.{StatementMeets, SettingMeets, passes}
use Rattle.hy_stepping.specs.Texts.{AreUtf8, IsUtf8Value, IsUtf8Row, HasUtf8Texts, WritesUtf8}
use Rattle.hy_stepping.specs.Typed.{kinds_of}
use Rattle.hy_stepping.proofs.RowTypes.{is_typed, row_fits}

-- ---- a test of rows

abbrev is_utf8_value : Value → Bool
is_utf8_value value.Null = true
is_utf8_value (value.Int number) = true
is_utf8_value (value.Text text) = is_utf8 text

abbrev is_utf8_row : List Value → Bool
is_utf8_row [] = true
is_utf8_row (value ∷ row) = is_utf8_value value && is_utf8_row row

-- whether the texts of a row of a table are UTF-8
abbrev pub has_utf8 : ℕ → List Value → Bool
has_utf8 table row = is_utf8_row row

abbrev AreUtf8Values : List Value → Type 0
AreUtf8Values row = AllByRecursion IsUtf8Value row

value_passes : (value : Value) → IsUtf8Value value → is_utf8_value value ≡ true
value_passes value.Null u = refl
value_passes (value.Int number) u = refl
value_passes (value.Text text) u = is_utf8-from_IsUtf8 text u

row_passes : (row : List Value) → AreUtf8Values row → is_utf8_row row ≡ true
row_passes [] u = refl
row_passes (value ∷ row) u = and_from (is_utf8_value value) (is_utf8_row row) (value_passes value u.0) (row_passes row u.1)

value_utf8 : (value : Value) → is_utf8_value value ≡ true → IsUtf8Value value
value_utf8 value.Null e = tt
value_utf8 (value.Int number) e = tt
value_utf8 (value.Text text) e = IsUtf8-from_is_utf8 text e

row_utf8 : (row : List Value) → is_utf8_row row ≡ true → AreUtf8Values row
row_utf8 [] e = tt
row_utf8 (value ∷ row) e =
    let parts = and_parts (is_utf8_value value) (is_utf8_row row) e in
    (value_utf8 value parts.0, row_utf8 row parts.1)

kind_of : (kind : Kind) (value : Value) → FitsKind kind value → IsUtf8Value value → IsOfKind kind value
kind_of kind.Int value.Null h u = tt
kind_of kind.Int (value.Int number) h u = tt
kind_of kind.Int (value.Text text) h u = absurd h
kind_of kind.Str value.Null h u = tt
kind_of kind.Str (value.Int number) h u = absurd h
kind_of kind.Str (value.Text text) h u = u

row_of : (kinds : List Kind) (row : List Value) → FitsRow kinds row → AreUtf8Values row → AreOfKinds kinds row
row_of [] [] h u = tt
row_of [] (value ∷ row) h u = absurd h
row_of (kind ∷ kinds) [] h u = absurd h
row_of (kind ∷ kinds) (value ∷ row) h u = (kind_of kind value h.0 u.0, row_of kinds row h.1 u.1)

-- a row that passes, and is of the types of the table's columns, is one of these columns, if it is there
pub cell_fits : (kinds : List (List Kind)) (table : ℕ) (cell : Cell) → IfSome cell (passes (is_typed kinds) table) → IfSome cell (passes has_utf8 table)
    → IsRowOf (kinds_of kinds table) cell
cell_fits kinds table None typed utf8 = tt
cell_fits kinds table (Some row) typed utf8 = row_of (kinds_of kinds table) row (row_fits (kinds_of kinds table) row typed) (row_utf8 row utf8)

-- ---- what an UPDATE makes of a row

-- what an expression makes of a row is UTF-8, where it is a text
abbrev MayBeUtf8 : Result Value Range → Type 0
MayBeUtf8 (Ok value) = IsUtf8Value value
MayBeUtf8 (Err range) = Unit {0}

number_utf8 : (fits : Bool) (number : ℤ) (range : Range) → MayBeUtf8 (cond fits (Ok (value.Int number)) (Err range))
number_utf8 true number range = tt
number_utf8 false number range = tt

-- an operator on two values, and on two sides, by what it makes of numbers
abbrev applied_by : (ℤ → ℤ → ℤ) → Value → Value → Result Value Range
applied_by exact (value.Int m) (value.Int n) = number_of (exact m n)
applied_by exact (value.Int m) value.Null = Ok value.Null
applied_by exact (value.Int m) (value.Text text) = Ok value.Null
applied_by exact value.Null right = Ok value.Null
applied_by exact (value.Text text) right = Ok value.Null

abbrev combined_by : (ℤ → ℤ → ℤ) → Result Value Range → Result Value Range → Result Value Range
combined_by exact (Err range) right = Err range
combined_by exact (Ok left) (Err range) = Err range
combined_by exact (Ok left) (Ok right) = applied_by exact left right

applied_utf8 : (exact : ℤ → ℤ → ℤ) (left right : Value) → MayBeUtf8 (applied_by exact left right)
applied_utf8 exact (value.Int m) (value.Int n) = number_utf8 (has_64_bits (exact m n)) (exact m n) _
applied_utf8 exact (value.Int m) value.Null = tt
applied_utf8 exact (value.Int m) (value.Text text) = tt
applied_utf8 exact value.Null right = tt
applied_utf8 exact (value.Text text) right = tt

-- it makes a number, or NULL
combined_utf8 : (exact : ℤ → ℤ → ℤ) (left right : Result Value Range) → MayBeUtf8 (combined_by exact left right)
combined_utf8 exact (Err range) right = tt
combined_utf8 exact (Ok left) (Err range) = tt
combined_utf8 exact (Ok left) (Ok right) = applied_utf8 exact left right

column_utf8 : (row : List Value) (column : ℕ) → AreUtf8Values row → IsUtf8Value (column_of row column)
column_utf8 [] column u = tt
column_utf8 (value ∷ row) zero u = u.0
column_utf8 (value ∷ row) (suc column) u = column_utf8 row column u.1

expression_utf8 : (expression : Expression) (row : List Value) → HasUtf8Texts expression → AreUtf8Values row → MayBeUtf8 (value_of expression row)
expression_utf8 (Literal value) row has u = has
expression_utf8 (Column column) row has u = column_utf8 row column u
expression_utf8 (Add left right) row has u = combined_utf8 (λ m n. m +ℤ n) (value_of left row) (value_of right row)
expression_utf8 (Sub left right) row has u = combined_utf8 (λ m n. m -ℤ n) (value_of left row) (value_of right row)
expression_utf8 (Mul left right) row has u = combined_utf8 (λ m n. m *ℤ n) (value_of left row) (value_of right row)

set_utf8 : (row : List Value) (column : ℕ) (value : Value) → AreUtf8Values row → IsUtf8Value value → AreUtf8Values (set row column value)
set_utf8 [] column value u is = tt
set_utf8 (old ∷ row) zero value u is = (is, u.1)
set_utf8 (old ∷ row) (suc column) value u is = (u.0, set_utf8 row column value u.1 is)

none_assigned : (sets : List Assign) (old : List Value) → IfSome (assigned_to sets old None) AreUtf8Values
none_assigned [] old = tt
none_assigned (assign ∷ sets) old = tt

abbrev SetsHaveUtf8 : List Assign → Type 0
SetsHaveUtf8 sets = AllByRecursion (λ (assign : Assign). HasUtf8Texts assign.value) sets

assigned_utf8 : (sets : List Assign) (old new : List Value) → SetsHaveUtf8 sets → AreUtf8Values old → AreUtf8Values new
    → IfSome (assigned_to sets old (Some new)) AreUtf8Values
assigned_utf8 [] old new has u v = v
assigned_utf8 (assign ∷ sets) old new has u v = by_value (value_of assign.value old) (λ value e.
    assigned_utf8 sets old (set new assign.column value) has.1 u
    (set_utf8 new assign.column value v (subst MayBeUtf8 e (expression_utf8 assign.value old has.0 u)))) refl
  where
    by_value : (result : Result Value Range)
        → ((value : Value) → value_of assign.value old ≡ Ok value → IfSome (assigned_to sets old (Some (set new assign.column value))) AreUtf8Values)
        → value_of assign.value old ≡ result → IfSome (assigned_to sets old (set_column new assign.column result)) AreUtf8Values
    by_value (Err range) more e = none_assigned sets old
    by_value (Ok value) more e = more value e

may_pass : (row : Option (List Value)) → IfSome row AreUtf8Values → IfSome row (λ (row : List Value). is_utf8_row row ≡ true)
may_pass None u = tt
may_pass (Some row) u = row_passes row u

-- ---- what is run

statement_passes : (statement : Bound) → WritesUtf8 statement → StatementMeets (passes has_utf8) statement
statement_passes (Select tables ons pred items) utf8 = tt
statement_passes (Group table pred key aggregate) utf8 = tt
statement_passes (Insert table row) utf8 = row_passes row (recursion_from_All IsUtf8Value row utf8)
statement_passes (Update table sets pred) utf8 = λ row h.
    may_pass (assigned_to sets row (Some row))
    (assigned_utf8 sets row row (recursion_from_All (λ (assign : Assign). HasUtf8Texts assign.value) sets utf8) (row_utf8 row h) (row_utf8 row h))
statement_passes (Delete table pred) utf8 = tt
statement_passes (Savepoint name) utf8 = tt
statement_passes (RollbackTo name) utf8 = tt
statement_passes (Release name) utf8 = tt

rows_pass : (rows : List (List Value)) → AllByRecursion IsUtf8Row rows → AllByRecursion (λ (row : List Value). is_utf8_row row ≡ true) rows
rows_pass [] u = tt
rows_pass (row ∷ rows) u = (row_passes row (recursion_from_All IsUtf8Value row u.0), rows_pass rows u.1)

abbrev AreUtf8Rows : List (List Value) → Type 0
AreUtf8Rows rows = All IsUtf8Row rows

first_passes : (first : List (List (List Value))) → AllByRecursion AreUtf8Rows first → (table : ℕ)
    → AllByRecursion (λ (row : List Value). is_utf8_row row ≡ true) (get_or first table [])
first_passes [] u table = tt
first_passes (rows ∷ first) u zero = rows_pass rows (recursion_from_All IsUtf8Row rows u.0)
first_passes (rows ∷ first) u (suc table) = first_passes first u.1 table

-- the first rows pass, and so do the rows that the statements write
pub begins_utf8 : (setting : Setting) → AreUtf8 setting.first setting.programs → SettingMeets (passes has_utf8) setting
begins_utf8 setting texts = record {
  first_rows = first_passes setting.first (recursion_from_All AreUtf8Rows setting.first texts.rows);
  statements = λ session none below txn nothing within statement blank there.
      statement_passes (get_or (get_or (get_or setting.programs session none) txn nothing).statements statement blank)
      (texts.statements session none below txn nothing within statement blank there);
}
