-- The columns that a statement can name.
use Rattle.std.specs.Prelude.{ℕ, ◌+◌, Bool, true, ◌==◌, List, [], ◌∷◌, Option, Some, None, is_none, length, slice_get, if◌then◌else◌}
use Rattle.std.specs.Option.{option_map, option_map_or, option_and_then}
use Rattle.std.specs.Str.{bytes_eq}
use Rattle.hy_token.specs.declared.Span.{Span}
use Rattle.hy_value.specs.declared.Kind.{Kind}
use Rattle.hy_schema.specs.declared.Column.{Column}
use Rattle.hy_schema.specs.declared.TableDef.{TableDef}
use Rattle.hy_schema.specs.Names.{column_number, table_at}
use Rattle.hy_ast.specs.declared.ColumnRef.{ColumnRef}
use Rattle.hy_ast.specs.declared.Operand.{Operand}
use Rattle.hy_ast.specs.declared.Operand.TheVariants as operands
use Rattle.hy_bound.specs.declared.predicate.Side.{Side}
use Rattle.hy_bound.specs.declared.predicate.Side.TheVariants as sides
use Rattle.hy_bind.specs.declared.scope.Found.{Found}
use Rattle.hy_bind.specs.declared.scope.Scope as declared
use Rattle.hy_bind.specs.declared.scope.Search.{Search}
use Rattle.hy_bind.specs.declared.scope.Search.TheVariants.{Nowhere, In, Several}
use Rattle.hy_bind.specs.declared.refusals.BindFault.{BindFault}
use Rattle.hy_bind.specs.declared.refusals.BindFault.TheVariants as fault
use Rattle.hy_bind.specs.Literals.{text_of_span, literal_kind, literal_fault, literal_value}
use Rattle.hy_bind.specs.Refusals.{fault_if}

-- a script and its tables, and the tables of a statement in FROM order, by number
pub record Scope : Type 0 where
  pub script : List ℕ
  pub catalog : List TableDef
  pub tables : List ℕ

-- what a scope of the program says
abbrev pub scope_of : declared.Scope → Scope
scope_of scope = record { script = scope.script.now; catalog = scope.catalog.now; tables = scope.tables.now }

-- how many columns a table has
abbrev pub width_of : Option TableDef → ℕ
width_of None = 0
width_of (Some def) = length def.columns

abbrev pub width_at : List TableDef → ℕ → ℕ
width_at catalog number = width_of (table_at catalog number)

-- how many columns the joined row of tables has
abbrev pub total_width : List TableDef → List ℕ → ℕ
total_width catalog [] = 0
total_width catalog (number ∷ numbers) = width_at catalog number + total_width catalog numbers

-- whether a reference may mean a column of a table of this name
abbrev pub may_mean : List ℕ → Option Span → List ℕ → Bool
may_mean script None name = true
may_mean script (Some table) name = bytes_eq (text_of_span script table) name

-- a column of a table: its number in the joined row, where the table's first has the number `from`
abbrev pub found_at : ℕ → ℕ → List Column → ℕ → Option Found
found_at number from columns ordinal = option_map (λ column. record { table = number; column = from + ordinal; kind = column.kind }) (slice_get columns ordinal)

-- the column of a table that a reference means
abbrev pub found_in : List ℕ → ColumnRef → ℕ → ℕ → TableDef → Option Found
found_in script reference number from def =
    if may_mean script reference.table def.name
    then option_and_then (found_at number from def.columns) (column_number def.columns (text_of_span script reference.column))
    else None

-- what was found so far, and a column more: those of one table are one, the first
abbrev pub and_found : Search → Option Found → Search
and_found before None = before
and_found Nowhere (Some found) = In found
and_found (In before) (Some found) = if before.table == found.table then In before else Several
and_found Several (Some found) = Several

-- what a reference means among tables, after what was found so far, the first of them having its columns
-- from this number on
abbrev pub searched : List ℕ → List TableDef → ColumnRef → ℕ → Search → List ℕ → Search
searched script catalog reference from before [] = before
searched script catalog reference from before (number ∷ numbers) =
    searched script catalog reference (from + width_at catalog number) (and_found before (option_and_then (found_in script reference number from) (table_at catalog number))) numbers

-- a reference means a column of exactly one of the tables, or none
abbrev pub only : Search → Option Found
only Nowhere = None
only (In found) = Some found
only Several = None

abbrev pub resolved : Scope → ColumnRef → Option Found
resolved scope reference = only (searched scope.script scope.catalog reference 0 Nowhere scope.tables)

-- the number of a column in the joined row; of one that is refused it doesn't matter
abbrev pub column_of : Scope → ColumnRef → ℕ
column_of scope reference = option_map_or (λ found. found.column) (resolved scope reference) 0

abbrev pub column_fault : Scope → ColumnRef → Option BindFault
column_fault scope reference = fault_if (is_none (resolved scope reference)) fault.UnknownColumn

abbrev pub column_kind : Scope → ColumnRef → Option Kind
column_kind scope reference = option_map (λ found. found.kind) (resolved scope reference)

-- an operand: why it is refused, its type, and what it is
abbrev pub operand_fault : Scope → Operand → Option BindFault
operand_fault scope (operands.Column reference) = column_fault scope reference
operand_fault scope (operands.Literal literal) = literal_fault scope.script literal

abbrev pub operand_kind : Scope → Operand → Option Kind
operand_kind scope (operands.Column reference) = column_kind scope reference
operand_kind scope (operands.Literal literal) = literal_kind literal

abbrev pub operand_side : Scope → Operand → Side
operand_side scope (operands.Column reference) = sides.Column (column_of scope reference)
operand_side scope (operands.Literal literal) = sides.Literal (literal_value scope.script literal)
