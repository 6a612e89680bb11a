-- The columns that statements name lie within the tables that they can see.
use Rattle.std.specs.Option.{option_map, option_map_or, option_and_then}
use Rattle.std.proofs.Common.{◌≡◌, ℕ, ◌+◌, ◌<◌, ◌≤◌, Bool, true, false, cond, is_none, List, [], ◌∷◌, ◌++◌, Option, Some, None, length, slice_get, refl, arith}
use Rattle.std.proofs.lemmas.List.{length-map}
use Rattle.std.proofs.lemmas.List.Elements.{All-nil, All-cons, All-append}
use Rattle.hy_schema.specs.declared.Column.{Column}
use Rattle.hy_schema.specs.declared.TableDef.{TableDef}
use Rattle.hy_schema.specs.Names.{column_names, column_number, table_at}
use Rattle.hy_ast.specs.declared.ColumnRef.{ColumnRef}
use Rattle.hy_ast.specs.declared.Operand.{Operand}
use Rattle.hy_ast.specs.declared.Operand.TheVariants as operands
use Rattle.hy_ast.specs.declared.Operator.{Operator}
use Rattle.hy_ast.specs.declared.Operator.TheVariants as operator
use Rattle.hy_ast.specs.Trees.{Test, Formula, SetClause}
use Rattle.hy_ast.specs.Trees as tree
use Rattle.hy_bound.specs.Expression.{Expression}
use Rattle.hy_bound.specs.Records.{columns_of, columns_read, side_columns}
use Rattle.hy_bound.specs.Fits.{LieWithin}
use Rattle.hy_bind.specs.declared.refusals.BindFault.TheVariants.{UnknownColumn}
use Rattle.hy_bind.specs.declared.scope.Found.{Found}
use Rattle.hy_bind.specs.declared.scope.Search.{Search}
use Rattle.hy_bind.specs.declared.scope.Search.TheVariants.{Nowhere, In, Several}
use Rattle.hy_bind.specs.Literals.{text_of_span}
use Rattle.hy_bind.specs.Refusals.{fault_if}
use Rattle.hy_bind.specs.Scope.{Scope, width_of, width_at, total_width, may_mean, found_at, found_in, and_found, searched, only, column_of, column_fault, operand_fault, operand_side}
use Rattle.hy_bind.specs.Conditions.{test_fault, test_bound, null_bound, where_fault, where_bound}
use Rattle.hy_bind.specs.Expressions.{formula_fault, formula_bound, operand_bound, binary_bound}
use Rattle.hy_bind.proofs.Causes.{neither}
use Rattle.hy_bind.proofs.Numbered.{number_within}

-- ---- one column

-- a column that was found is among the first so many of the joined row
abbrev pub IsBelow : ℕ → Option Found → Type 0
IsBelow limit None = Unit {0}
IsBelow limit (Some found) = found.column < limit

abbrev pub SearchIsBelow : ℕ → Search → Type 0
SearchIsBelow limit Nowhere = Unit {0}
SearchIsBelow limit (In found) = found.column < limit
SearchIsBelow limit Several = Unit {0}

-- the number of a column is below how many there are
pub ordinal_within : (columns : List Column) (name : List ℕ) (ordinal : ℕ) → column_number columns name ≡ Some ordinal → ordinal < length columns
ordinal_within columns name ordinal is =
    let within = number_within (column_names columns) name ordinal is in
    let many = length-map columns (λ (column : Column). column.name) in
    omega (arith, within, many)

at_below : (number column limit : ℕ) (found : Option Column) → column < limit → IsBelow limit (option_map (λ (c : Column). record { table = number; column = column; kind = c.kind }) found)
at_below number column limit None h = tt
at_below number column limit (Some c) h = h

number_below : (number from limit : ℕ) (columns : List Column) (name : List ℕ) (ordinal : Option ℕ) → column_number columns name ≡ ordinal → from + length columns ≤ limit → IsBelow limit (option_and_then (found_at number from columns) ordinal)
number_below number from limit columns name None is room = tt
number_below number from limit columns name (Some ordinal) is room =
    let within = ordinal_within columns name ordinal is in
    at_below number (from + ordinal) limit (slice_get columns ordinal) (omega (arith, within, room))

if_below : (may : Bool) (limit : ℕ) (found : Option Found) → IsBelow limit found → IsBelow limit (cond may found None)
if_below true limit found h = h
if_below false limit found h = tt

found_below : (script : List ℕ) (reference : ColumnRef) (number from limit : ℕ) (def : Option TableDef) → from + width_of def ≤ limit → IsBelow limit (option_and_then (found_in script reference number from) def)
found_below script reference number from limit None room = tt
found_below script reference number from limit (Some def) room =
    if_below (may_mean script reference.table def.name) limit _ (number_below number from limit def.columns (text_of_span script reference.column) _ refl room)

first_below : (same : Bool) (limit : ℕ) (before : Found) → before.column < limit → SearchIsBelow limit (cond same (In before) Several)
first_below true limit before h = h
first_below false limit before h = tt

and_below : (limit : ℕ) (before : Search) (found : Option Found) → SearchIsBelow limit before → IsBelow limit found → SearchIsBelow limit (and_found before found)
and_below limit before None old new = old
and_below limit Nowhere (Some found) old new = new
and_below limit (In before) (Some found) old new = first_below _ limit before old
and_below limit Several (Some found) old new = tt

searched_below : (script : List ℕ) (catalog : List TableDef) (reference : ColumnRef) (from limit : ℕ) (before : Search) (tables : List ℕ) → from + total_width catalog tables ≤ limit → SearchIsBelow limit before
    → SearchIsBelow limit (searched script catalog reference from before tables)
searched_below script catalog reference from limit before [] room old = old
searched_below script catalog reference from limit before (number ∷ tables) room old =
    searched_below script catalog reference (from + width_at catalog number) limit _ tables (omega (arith, room))
    (and_below limit before _ old (found_below script reference number from limit (table_at catalog number) (omega (arith, room))))

only_below : (limit : ℕ) (search : Search) → SearchIsBelow limit search → fault_if (is_none (only search)) UnknownColumn ≡ None → option_map_or (λ (found : Found). found.column) (only search) 0 < limit
only_below limit Nowhere below h = absurd cc
only_below limit (In found) below h = below
only_below limit Several below h = absurd cc

-- how many columns a scope has
abbrev pub scope_width : Scope → ℕ
scope_width scope = total_width scope.catalog scope.tables

-- a reference that is not refused means a column of the joined row
pub column_within : (scope : Scope) (reference : ColumnRef) → column_fault scope reference ≡ None → column_of scope reference < scope_width scope
column_within scope reference h = only_below (scope_width scope) _ (searched_below scope.script scope.catalog reference 0 (scope_width scope) Nowhere scope.tables (omega arith) tt) h

-- ---- conditions and expressions

-- one column within so many
pub one_within : (width column : ℕ) → column < width → LieWithin width (column ∷ [])
one_within width column h = All-cons (λ (c : ℕ). c < width) column [] h (All-nil (λ (c : ℕ). c < width))

pub both_within : (width : ℕ) (columns others : List ℕ) → LieWithin width columns → LieWithin width others → LieWithin width (columns ++ others)
both_within width columns others h k = All-append (λ (c : ℕ). c < width) columns others h k

pub none_within : (width : ℕ) → LieWithin width []
none_within width = All-nil (λ (c : ℕ). c < width)

side_within : (scope : Scope) (operand : Operand) → operand_fault scope operand ≡ None → LieWithin (scope_width scope) (side_columns (operand_side scope operand))
side_within scope (operands.Column reference) h = one_within (scope_width scope) (column_of scope reference) (column_within scope reference h)
side_within scope (operands.Literal literal) h = none_within (scope_width scope)

null_within : (width column : ℕ) (negated : Bool) → column < width → LieWithin width (columns_of (null_bound column negated))
null_within width column true h = one_within width column h
null_within width column false h = one_within width column h

-- the columns of a condition that is not refused
pub test_within : (scope : Scope) (test : Test) → test_fault scope test ≡ None → LieWithin (scope_width scope) (columns_of (test_bound scope test))
test_within scope (tree.Compare left op at right) h =
    let parts = neither (column_fault scope left) (operand_fault scope right) (neither _ _ h).0 in
    All-cons (λ (c : ℕ). c < scope_width scope) (column_of scope left) _ (column_within scope left parts.0) (side_within scope right parts.1)
test_within scope (tree.IsNull column at negated) h = null_within (scope_width scope) (column_of scope column) negated (column_within scope column h)
test_within scope (tree.Not at inner) h = test_within scope inner h
test_within scope (tree.And left at right) h =
    let parts = neither (test_fault scope left) (test_fault scope right) h in
    both_within (scope_width scope) _ _ (test_within scope left parts.0) (test_within scope right parts.1)
test_within scope (tree.Or left at right) h =
    let parts = neither (test_fault scope left) (test_fault scope right) h in
    both_within (scope_width scope) _ _ (test_within scope left parts.0) (test_within scope right parts.1)
test_within scope (tree.Nested inner) h = test_within scope inner h

pub where_within : (scope : Scope) (test : Option Test) → where_fault scope test ≡ None → LieWithin (scope_width scope) (columns_of (where_bound scope test))
where_within scope None h = none_within (scope_width scope)
where_within scope (Some test) h = test_within scope test h

operand_within : (scope : Scope) (operand : Operand) → operand_fault scope operand ≡ None → LieWithin (scope_width scope) (columns_read (operand_bound scope operand))
operand_within scope (operands.Column reference) h = one_within (scope_width scope) (column_of scope reference) (column_within scope reference h)
operand_within scope (operands.Literal literal) h = none_within (scope_width scope)

binary_within : (width : ℕ) (op : Operator) (left right : Expression) → LieWithin width (columns_read left) → LieWithin width (columns_read right) → LieWithin width (columns_read (binary_bound op left right))
binary_within width operator.Plus left right h k = both_within width (columns_read left) (columns_read right) h k
binary_within width operator.Minus left right h k = both_within width (columns_read left) (columns_read right) h k
binary_within width operator.Times left right h k = both_within width (columns_read left) (columns_read right) h k

-- the columns of an expression that is not refused
pub formula_within : (scope : Scope) (formula : Formula) → formula_fault scope formula ≡ None → LieWithin (scope_width scope) (columns_read (formula_bound scope formula))
formula_within scope (tree.Plain operand) h = operand_within scope operand h
formula_within scope (tree.Binary left op at right) h =
    let parts = neither (formula_fault scope left) (formula_fault scope right) (neither _ _ h).0 in
    binary_within (scope_width scope) op (formula_bound scope left) (formula_bound scope right) (formula_within scope left parts.0) (formula_within scope right parts.1)
formula_within scope (tree.Bracket inner) h = formula_within scope inner h
