-- What SET gives a column is of its type.
use Rattle.std.specs.Prelude.{◌+ℤ◌, ◌-ℤ◌, ◌*ℤ◌}
use Rattle.std.specs.Option.{option_map, option_map_or, option_and_then}
use Rattle.std.proofs.Common.{◌≡◌, ℕ, zero, suc, ◌+◌, ℤ, Bool, true, false, cond, is_none, List, [], ◌∷◌, Option, None, Some, Result, Ok, Err}
use Rattle.std.proofs.Common.{slice_get, get_or, refl, sym, subst, zero-add}
use Rattle.hy_value.specs.declared.Kind.{Kind}
use Rattle.hy_value.specs.declared.Kind.TheVariants.{Int}
use Rattle.hy_value.specs.declared.Value.{Value}
use Rattle.hy_value.specs.declared.Value.TheVariants as values
use Rattle.hy_schema.specs.declared.Column.{Column}
use Rattle.hy_schema.specs.declared.TableDef.{TableDef}
use Rattle.hy_schema.specs.Names.{column_number, table_at}
use Rattle.hy_ast.specs.declared.ColumnRef.{ColumnRef}
use Rattle.hy_ast.specs.declared.Operand.{Operand}
use Rattle.hy_ast.specs.declared.Operand.TheVariants as operands
use Rattle.hy_ast.specs.declared.Operator.{Operator}
use Rattle.hy_ast.specs.declared.Operator.TheVariants as signs
use Rattle.hy_ast.specs.Trees.{Formula}
use Rattle.hy_ast.specs.Trees as tree
use Rattle.hy_bound.specs.declared.Range.{Range}
use Rattle.hy_bound.specs.Assignment.{has_64_bits, number_of, value_of}
use Rattle.hy_bound.specs.Expression.{Expression, Add, Sub, Mul}
use Rattle.hy_bound.specs.Predicate.{column_of as column_in}
use Rattle.hy_column.specs.Cells.{FitsKind}
use Rattle.hy_chunk.specs.Sound.{FitsRow}
use Rattle.hy_bind.specs.declared.refusals.BindFault.TheVariants.{UnknownColumn}
use Rattle.hy_bind.specs.declared.scope.Found.{Found}
use Rattle.hy_bind.specs.declared.scope.Search.TheVariants.{Nowhere}
use Rattle.hy_bind.specs.Literals.{text_of_span}
use Rattle.hy_bind.specs.Refusals.{fault_if}
use Rattle.hy_bind.specs.Scope.{may_mean, found_at, found_in, and_found, only, resolved, operand_fault, operand_kind}
use Rattle.hy_bind.specs.Expressions.{formula_kind, formula_fault, operand_bound, binary_bound, formula_bound}
use Rattle.hy_bind.specs.Statements.{columns_in, in_scope}
use Rattle.hy_setting.proofs.CatalogTypes.{kinds_in}
use Rattle.hy_setting.proofs.ValueTypes.{IsOf, literal_is}

-- ---- a column

-- what is found is one of these columns
abbrev FoundIn : List Column → Option Found → Type 0
FoundIn columns None = Unit {0}
FoundIn columns (Some found) = (column : Column) × (slice_get columns found.column ≡ Some column) × (found.kind ≡ column.kind)

at_found : (columns : List Column) (number ordinal : ℕ) (found : Option Column) → slice_get columns ordinal ≡ found
    → FoundIn columns (option_map (λ (column : Column). record { table = number; column = 0 + ordinal; kind = column.kind }) found)
at_found columns number ordinal None is = tt
at_found columns number ordinal (Some column) is =
    (column, subst (λ (i : ℕ). slice_get columns i ≡ Some column) (sym (zero-add ordinal)) is, refl)

ordinal_found : (columns : List Column) (number : ℕ) (ordinal : Option ℕ) → FoundIn columns (option_and_then (found_at number 0 columns) ordinal)
ordinal_found columns number None = tt
ordinal_found columns number (Some ordinal) = at_found columns number ordinal (slice_get columns ordinal) refl

if_found : (may : Bool) (columns : List Column) (found : Option Found) → FoundIn columns found → FoundIn columns (cond may found None)
if_found true columns found is = is
if_found false columns found is = tt

table_found : (script : List ℕ) (reference : ColumnRef) (number : ℕ) (def : Option TableDef)
    → FoundIn (columns_in def) (option_and_then (found_in script reference number 0) def)
table_found script reference number None = tt
table_found script reference number (Some def) =
    if_found (may_mean script reference.table def.name) def.columns _
    (ordinal_found def.columns number (column_number def.columns (text_of_span script reference.column)))

only_found : (columns : List Column) (found : Option Found) → FoundIn columns found → FoundIn columns (only (and_found Nowhere found))
only_found columns None is = tt
only_found columns (Some found) is = is

-- of one table a reference means one of its columns
resolved_found : (script : List ℕ) (catalog : List TableDef) (number : ℕ) (reference : ColumnRef)
    → FoundIn (columns_in (table_at catalog number)) (resolved (in_scope script catalog (number ∷ [])) reference)
resolved_found script catalog number reference =
    only_found (columns_in (table_at catalog number)) _ (table_found script reference number (table_at catalog number))

-- a row has a value of a column's type there
row_at : (columns : List Column) (row : List Value) (ordinal : ℕ) (column : Column) → slice_get columns ordinal ≡ Some column → FitsRow (kinds_in columns) row
    → FitsKind column.kind (get_or row ordinal values.Null)
row_at [] row ordinal column is fits = absurd cc
row_at (one ∷ columns) [] ordinal column is fits = absurd fits
row_at (one ∷ columns) (value ∷ row) zero column is fits = let same : one ≡ column = cc in subst (λ (c : Column). FitsKind c.kind value) same fits.0
row_at (one ∷ columns) (value ∷ row) (suc ordinal) column is fits = row_at columns row ordinal column is fits.1

found_is : (columns : List Column) (row : List Value) (found : Option Found) → FoundIn columns found → fault_if (is_none found) UnknownColumn ≡ None
    → FitsRow (kinds_in columns) row → IsOf (option_map (λ (f : Found). f.kind) found) (column_in row (option_map_or (λ (f : Found). f.column) found 0))
found_is columns row None is h fits = absurd cc
found_is columns row (Some found) is h fits =
    subst (λ (kind : Kind). FitsKind kind (column_in row found.column)) (sym is.2) (row_at columns row found.column is.0 is.1 fits)

-- ---- an operator

-- the result of an expression is of a type
abbrev pub ResultIs : Option Kind → Result Value Range → Type 0
ResultIs kind (Ok value) = IsOf kind value
ResultIs kind (Err range) = Unit {0}

in_range : (fits : Bool) (z : ℤ) (range : Range) → ResultIs (Some Int) (cond fits (Ok (values.Int z)) (Err range))
in_range true z range = tt
in_range false z range = tt

-- an operator on two values, by what it makes of numbers
abbrev applied_by : (ℤ → ℤ → ℤ) → Value → Value → Result Value Range
applied_by exact (values.Int m) (values.Int n) = number_of (exact m n)
applied_by exact (values.Int m) values.Null = Ok values.Null
applied_by exact (values.Int m) (values.Text t) = Ok values.Null
applied_by exact values.Null right = Ok values.Null
applied_by exact (values.Text s) right = Ok values.Null

-- and on two sides
abbrev combined_by : (ℤ → ℤ → ℤ) → Result Value Range → Result Value Range → Result Value Range
combined_by exact (Err range) right = Err range
combined_by exact (Ok left) (Err range) = Err range
combined_by exact (Ok left) (Ok right) = applied_by exact left right

applied_is : (exact : ℤ → ℤ → ℤ) (left right : Value) → ResultIs (Some Int) (applied_by exact left right)
applied_is exact (values.Int m) (values.Int n) = in_range (has_64_bits (exact m n)) (exact m n) (record {})
applied_is exact (values.Int m) values.Null = tt
applied_is exact (values.Int m) (values.Text t) = tt
applied_is exact values.Null right = tt
applied_is exact (values.Text s) right = tt

-- an operator makes a number, or NULL
combined_is : (exact : ℤ → ℤ → ℤ) (left right : Result Value Range) → ResultIs (Some Int) (combined_by exact left right)
combined_is exact (Err range) right = tt
combined_is exact (Ok left) (Err range) = tt
combined_is exact (Ok left) (Ok right) = applied_is exact left right

pub sum_is : (left right : Expression) (row : List Value) → ResultIs (Some Int) (value_of (Add left right) row)
sum_is left right row = combined_is (λ m n. m +ℤ n) (value_of left row) (value_of right row)

pub difference_is : (left right : Expression) (row : List Value) → ResultIs (Some Int) (value_of (Sub left right) row)
difference_is left right row = combined_is (λ m n. m -ℤ n) (value_of left row) (value_of right row)

product_is : (left right : Expression) (row : List Value) → ResultIs (Some Int) (value_of (Mul left right) row)
product_is left right row = combined_is (λ m n. m *ℤ n) (value_of left row) (value_of right row)

binary_is : (op : Operator) (left right : Expression) (row : List Value) → ResultIs (Some Int) (value_of (binary_bound op left right) row)
binary_is signs.Plus left right row = sum_is left right row
binary_is signs.Minus left right row = difference_is left right row
binary_is signs.Times left right row = product_is left right row

-- ---- an expression

operand_is : (script : List ℕ) (catalog : List TableDef) (number : ℕ) (operand : Operand) (row : List Value)
    → operand_fault (in_scope script catalog (number ∷ [])) operand ≡ None → FitsRow (kinds_in (columns_in (table_at catalog number))) row
    → ResultIs (operand_kind (in_scope script catalog (number ∷ [])) operand) (value_of (operand_bound (in_scope script catalog (number ∷ [])) operand) row)
operand_is script catalog number (operands.Column reference) row h fits =
    found_is (columns_in (table_at catalog number)) row (resolved (in_scope script catalog (number ∷ [])) reference)
    (resolved_found script catalog number reference) h fits
operand_is script catalog number (operands.Literal literal) row h fits = literal_is script literal

-- an expression that is not refused is of its type, for each row of the columns' types
pub formula_is : (script : List ℕ) (catalog : List TableDef) (number : ℕ) (formula : Formula) (row : List Value)
    → formula_fault (in_scope script catalog (number ∷ [])) formula ≡ None → FitsRow (kinds_in (columns_in (table_at catalog number))) row
    → ResultIs (formula_kind (in_scope script catalog (number ∷ [])) formula) (value_of (formula_bound (in_scope script catalog (number ∷ [])) formula) row)
formula_is script catalog number (tree.Plain operand) row h fits = operand_is script catalog number operand row h fits
formula_is script catalog number (tree.Binary left op at right) row h fits =
    binary_is op (formula_bound (in_scope script catalog (number ∷ [])) left) (formula_bound (in_scope script catalog (number ∷ [])) right) row
formula_is script catalog number (tree.Bracket inner) row h fits = formula_is script catalog number inner row h fits
