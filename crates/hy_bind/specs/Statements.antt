-- Statements with their names resolved: why one is refused, and what the engine runs.
use Rattle.std.specs.Prelude.{◌≡◌, ℕ, suc, Bool, true, false, not, ◌||◌, ◌==◌, is_some, List, [], ◌∷◌, ◌++◌, Option, Some, None, Result, Ok, Err, length, map, take, nat_lt, slice_get}
use Rattle.std.specs.List.{range_with_len}
use Rattle.std.specs.Option.{option_map_or}
use Rattle.hy_token.specs.declared.Span.{Span}
use Rattle.hy_value.specs.declared.Kind.{Kind}
use Rattle.hy_value.specs.TextBytes.{text_of}
use Rattle.hy_schema.specs.declared.Column.{Column}
use Rattle.hy_schema.specs.declared.TableDef.{TableDef}
use Rattle.hy_schema.specs.Names.{number_of, table_number, column_number, table_at}
use Rattle.hy_ast.specs.declared.ColumnRef.{ColumnRef}
use Rattle.hy_ast.specs.declared.Literal.{Literal}
use Rattle.hy_ast.specs.declared.Literal.TheVariants as literals
use Rattle.hy_ast.specs.declared.Join.{Join}
use Rattle.hy_ast.specs.declared.Listed.{Listed}
use Rattle.hy_ast.specs.declared.Listed.TheVariants as listing
use Rattle.hy_ast.specs.declared.Total.{Total}
use Rattle.hy_ast.specs.declared.Total.TheVariants as totals
use Rattle.hy_ast.specs.Trees.{Test, SetClause, Selection, Statement}
use Rattle.hy_ast.specs.Trees as tree
use Rattle.hy_bound.specs.declared.On.{On}
use Rattle.hy_bound.specs.declared.Assign.{Assign}
use Rattle.hy_bound.specs.declared.Items.{Items}
use Rattle.hy_bound.specs.declared.Items.TheVariants as items
use Rattle.hy_bound.specs.declared.Aggregate.{Aggregate}
use Rattle.hy_bound.specs.declared.Aggregate.TheVariants as aggregates
use Rattle.hy_bound.specs.declared.Bound.{Bound}
use Rattle.hy_bound.specs.declared.Bound.TheVariants as bound
use Rattle.hy_bind.specs.declared.refusals.BindError.{BindError}
use Rattle.hy_bind.specs.declared.refusals.BindError.TheVariants as error
use Rattle.hy_bind.specs.declared.refusals.BindFault.{BindFault}
use Rattle.hy_bind.specs.declared.refusals.BindFault.TheVariants as fault
use Rattle.hy_bind.specs.Literals.{text_of_span, literal_fault, literal_kind, literal_value}
use Rattle.hy_bind.specs.Refusals.{first_of, fault_if, agree}
use Rattle.hy_bind.specs.Scope.{Scope, total_width, column_fault, column_kind, column_of}
use Rattle.hy_bind.specs.Conditions.{where_fault, where_bound}
use Rattle.hy_bind.specs.Expressions.{formula_fault, formula_kind, formula_bound, is_number}
use Rattle.hy_limits.specs.declared.TheConstants.{MOST_JOINED}

-- ---- lists

-- the first refusal of some
abbrev pub first_of_all : {A : Type 0} → (A → Option BindFault) → List A → Option BindFault
first_of_all f [] = None
first_of_all f (x ∷ xs) = first_of (f x) (first_of_all f xs)

-- whether one of these names came before, or comes twice
abbrev pub comes_again : List (List ℕ) → List (List ℕ) → Bool
comes_again before [] = false
comes_again before (name ∷ names) = is_some (number_of before name) || comes_again (before ++ name ∷ []) names

-- whether a name comes twice
abbrev pub repeats : List (List ℕ) → Bool
repeats names = comes_again [] names

-- ---- the tables of a statement

abbrev pub and_number : Option ℕ → Option (List ℕ) → Option (List ℕ)
and_number None numbers = None
and_number (Some number) None = None
and_number (Some number) (Some numbers) = Some (number ∷ numbers)

-- the numbers of tables, if they are all there
abbrev pub numbers_of : List ℕ → List TableDef → List Span → Option (List ℕ)
numbers_of script catalog [] = Some []
numbers_of script catalog (table ∷ tables) = and_number (table_number catalog (text_of_span script table)) (numbers_of script catalog tables)

-- the tables that a statement names, in order
abbrev pub tables_of : Statement → List Span
tables_of (tree.Insert table values) = table ∷ []
tables_of (tree.Update table sets test) = table ∷ []
tables_of (tree.Delete table test) = table ∷ []
tables_of (tree.Select (tree.Rows listed table joins test)) = table ∷ map (λ join. join.table) joins
tables_of (tree.Select (tree.Count table test)) = table ∷ []
tables_of (tree.Select (tree.Groups column total table test key)) = table ∷ []
tables_of _ = []

-- a statement that names tables
abbrev pub NamesTables : Statement → Type 0
NamesTables (tree.Insert table values) = Unit {0}
NamesTables (tree.Update table sets test) = Unit {0}
NamesTables (tree.Delete table test) = Unit {0}
NamesTables (tree.Select selection) = Unit {0}
NamesTables _ = ⊥

-- a statement that names tables or a savepoint
abbrev pub HasNames : Statement → Type 0
HasNames (tree.Insert table values) = Unit {0}
HasNames (tree.Update table sets test) = Unit {0}
HasNames (tree.Delete table test) = Unit {0}
HasNames (tree.Select selection) = Unit {0}
HasNames (tree.Savepoint name) = Unit {0}
HasNames (tree.RollbackTo name) = Unit {0}
HasNames (tree.Release name) = Unit {0}
HasNames _ = ⊥

-- the number of the one table of a statement
abbrev pub table_of : Scope → ℕ
table_of scope = option_map_or (λ number. number) (slice_get scope.tables 0) 0

abbrev pub columns_in : Option TableDef → List Column
columns_in None = []
columns_in (Some def) = def.columns

abbrev pub key_in : Option TableDef → Option ℕ
key_in None = None
key_in (Some def) = def.key

-- its columns, and its key
abbrev pub columns_of : Scope → List Column
columns_of scope = columns_in (table_at scope.catalog (table_of scope))

abbrev pub key_of : Scope → Option ℕ
key_of scope = key_in (table_at scope.catalog (table_of scope))

-- ---- INSERT

-- a value, which has the type of its column
abbrev pub value_fault : List ℕ → Column → Literal → Option BindFault
value_fault script column value = first_of (literal_fault script value) (fault_if (not (agree (literal_kind value) (Some column.kind))) fault.WrongType)

-- there are as many values as columns
abbrev pub values_fault : List ℕ → List Column → List Literal → Option BindFault
values_fault script [] [] = None
values_fault script [] (value ∷ values) = Some fault.WrongType
values_fault script (column ∷ columns) [] = Some fault.WrongType
values_fault script (column ∷ columns) (value ∷ values) = first_of (value_fault script column value) (values_fault script columns values)

abbrev pub is_null : Option Literal → Bool
is_null None = false
is_null (Some (literals.Null span)) = true
is_null (Some (literals.Integer minus digits)) = false
is_null (Some (literals.Text span)) = false

-- the key is not NULL
abbrev pub key_fault : Option ℕ → List Literal → Option BindFault
key_fault None values = None
key_fault (Some key) values = fault_if (is_null (slice_get values key)) fault.KeyNull

abbrev pub insert_fault : Scope → List Literal → Option BindFault
insert_fault scope values = first_of (values_fault scope.script (columns_of scope) values) (key_fault (key_of scope) values)

-- ---- UPDATE

abbrev pub is_key : Option ℕ → ℕ → Bool
is_key None column = false
is_key (Some key) column = key == column

abbrev pub kind_at : List Column → ℕ → Option Kind
kind_at columns ordinal = option_map_or (λ column. Some column.kind) (slice_get columns ordinal) None

-- an assignment to a column of this number, or to none that is there, of a value that is refused or not and has this
-- type: both sides have one type, and the column is not the key
abbrev pub fault_of_set : Scope → Option BindFault → Option Kind → Option ℕ → Option BindFault
fault_of_set scope unfit kind None = Some fault.UnknownColumn
fault_of_set scope unfit kind (Some ordinal) =
    first_of unfit
    (first_of (fault_if (not (agree kind (kind_at (columns_of scope) ordinal))) fault.WrongType)
    (fault_if (is_key (key_of scope) ordinal) fault.KeySet))

abbrev pub set_fault : Scope → SetClause → Option ℕ → Option BindFault
set_fault scope set column = fault_of_set scope (formula_fault scope set.value) (formula_kind scope set.value) column

-- the number of the column on the left
abbrev pub set_column : Scope → SetClause → Option ℕ
set_column scope set = column_number (columns_of scope) (text_of_span scope.script set.column)

abbrev pub sets_fault : Scope → List SetClause → Option BindFault
sets_fault scope sets = first_of_all (λ set. set_fault scope set (set_column scope set)) sets

abbrev pub update_fault : Scope → List SetClause → Option Test → Option BindFault
update_fault scope sets test =
    first_of (sets_fault scope sets)
    (first_of (fault_if (repeats (map (text_of_span scope.script) (map (λ set. set.column) sets))) fault.Twice) (where_fault scope test))

abbrev pub set_bound : Scope → SetClause → Assign
set_bound scope set = record { column = option_map_or (λ ordinal. ordinal) (set_column scope set) 0; value = formula_bound scope set.value }

-- ---- SELECT

-- the first so many tables
abbrev pub visible : Scope → ℕ → Scope
visible scope count = record { script = scope.script; catalog = scope.catalog; tables = take count scope.tables }

-- the two columns of an ON have one type
abbrev pub join_fault : Scope → Join → Option BindFault
join_fault scope join =
    first_of (first_of (column_fault scope join.left) (column_fault scope join.right))
    (fault_if (not (agree (column_kind scope join.left) (column_kind scope join.right))) fault.WrongType)

-- in an ON the tables up to and with the one just joined are visible, for the first of these so many
abbrev pub joins_fault : Scope → ℕ → List Join → Option BindFault
joins_fault scope count [] = None
joins_fault scope count (join ∷ joins) = first_of (join_fault (visible scope count) join) (joins_fault scope (suc count) joins)

abbrev pub on_bound : Scope → Join → On
on_bound scope join = record { left = column_of scope join.left; right = column_of scope join.right }

abbrev pub ons_bound : Scope → ℕ → List Join → List On
ons_bound scope count [] = []
ons_bound scope count (join ∷ joins) = on_bound (visible scope count) join ∷ ons_bound scope (suc count) joins

-- what is summed is a number
abbrev pub sum_fault : Scope → ColumnRef → Option BindFault
sum_fault scope reference = first_of (column_fault scope reference) (fault_if (not (is_number (column_kind scope reference))) fault.WrongType)

abbrev pub columns_fault : Scope → List ColumnRef → Option BindFault
columns_fault scope references = first_of_all (column_fault scope) references

abbrev pub listed_fault : Scope → Listed → Option BindFault
listed_fault scope listing.All = None
listed_fault scope (listing.Sum reference) = sum_fault scope reference
listed_fault scope (listing.Columns references) = columns_fault scope references

abbrev pub items_bound : Scope → Listed → Items
items_bound scope listing.All = items.Columns (range_with_len 0 (total_width scope.catalog scope.tables))
items_bound scope (listing.Sum reference) = items.Sum (column_of scope reference)
items_bound scope (listing.Columns references) = items.Columns (map (column_of scope) references)

-- no table comes twice, and there are at most four
abbrev pub from_fault : Scope → List Span → Option BindFault
from_fault scope tables = first_of (fault_if (repeats (map (text_of_span scope.script) tables)) fault.Twice) (fault_if (nat_lt MOST_JOINED (length tables)) fault.Limit)

abbrev pub rows_fault : Scope → List Span → Listed → List Join → Option Test → Option BindFault
rows_fault scope tables listed joins test =
    first_of (first_of (from_fault scope tables) (joins_fault scope 2 joins)) (first_of (listed_fault scope listed) (where_fault scope test))

abbrev pub total_fault : Scope → Total → Option BindFault
total_fault scope totals.Count = None
total_fault scope (totals.Sum reference) = sum_fault scope reference

abbrev pub total_bound : Scope → Total → Aggregate
total_bound scope totals.Count = aggregates.Count
total_bound scope (totals.Sum reference) = aggregates.Sum (column_of scope reference)

-- the column that is listed is the one of GROUP BY
abbrev pub group_column_fault : Scope → ColumnRef → ColumnRef → Option BindFault
group_column_fault scope column key =
    first_of (first_of (column_fault scope column) (column_fault scope key)) (fault_if (not (column_of scope column == column_of scope key)) fault.GroupColumn)

abbrev pub groups_fault : Scope → ColumnRef → Total → Option Test → ColumnRef → Option BindFault
groups_fault scope column total test key =
    first_of (group_column_fault scope column key) (first_of (total_fault scope total) (where_fault scope test))

abbrev pub selection_fault : Scope → Selection → Option BindFault
selection_fault scope (tree.Rows listed table joins test) = rows_fault scope (table ∷ map (λ join. join.table) joins) listed joins test
selection_fault scope (tree.Count table test) = where_fault scope test
selection_fault scope (tree.Groups column total table test key) = groups_fault scope column total test key

abbrev pub selection_bound : Scope → Selection → Bound
selection_bound scope (tree.Rows listed table joins test) = bound.Select scope.tables (ons_bound scope 2 joins) (where_bound scope test) (items_bound scope listed)
selection_bound scope (tree.Count table test) = bound.Select scope.tables [] (where_bound scope test) items.Count
selection_bound scope (tree.Groups column total table test key) = bound.Group (table_of scope) (where_bound scope test) (column_of scope key) (total_bound scope total)

-- ---- all statements

-- why a statement whose tables are there is refused
abbrev pub fault_in : Scope → Statement → Option BindFault
fault_in scope (tree.Insert table values) = insert_fault scope values
fault_in scope (tree.Update table sets test) = update_fault scope sets test
fault_in scope (tree.Delete table test) = where_fault scope test
fault_in scope (tree.Select selection) = selection_fault scope selection
fault_in scope _ = None

abbrev pub in_scope : List ℕ → List TableDef → List ℕ → Scope
in_scope script catalog numbers = record { script = script; catalog = catalog; tables = numbers }

abbrev pub fault_of_numbered : List ℕ → List TableDef → Option (List ℕ) → Statement → Option BindFault
fault_of_numbered script catalog None statement = Some fault.UnknownTable
fault_of_numbered script catalog (Some numbers) statement = fault_in (in_scope script catalog numbers) statement

-- why a statement is refused, if it is: the first of its refusals in their order
abbrev pub bind_fault : List ℕ → List TableDef → Statement → Option BindFault
bind_fault script catalog statement = fault_of_numbered script catalog (numbers_of script catalog (tables_of statement)) statement

-- an error is right: memory is short, or this is why a statement is refused
abbrev pub Fails : BindError → Option BindFault → Type 0
Fails error.OutOfMemory fault = Unit {0}
Fails (error.Refused refusal) fault = fault ≡ Some refusal

-- what binding a statement comes to: the statement, if it isn't refused
abbrev pub Binds : Result Bound BindError → Option BindFault → Bound → Type 0
Binds (Ok bound) fault expected = (bound ≡ expected) × (fault ≡ None)
Binds (Err error) fault expected = Fails error fault

-- a statement as the engine runs it; of one without names it doesn't matter
abbrev pub bound_in : Scope → Statement → Bound
bound_in scope (tree.Insert table values) = bound.Insert (table_of scope) (map (literal_value scope.script) values)
bound_in scope (tree.Update table sets test) = bound.Update (table_of scope) (map (set_bound scope) sets) (where_bound scope test)
bound_in scope (tree.Delete table test) = bound.Delete (table_of scope) (where_bound scope test)
bound_in scope (tree.Select selection) = selection_bound scope selection
bound_in scope (tree.Savepoint name) = bound.Savepoint (text_of (text_of_span scope.script name))
bound_in scope (tree.RollbackTo name) = bound.RollbackTo (text_of (text_of_span scope.script name))
bound_in scope (tree.Release name) = bound.Release (text_of (text_of_span scope.script name))
bound_in scope _ = bound.Insert 0 []

abbrev pub numbers_or_none : Option (List ℕ) → List ℕ
numbers_or_none None = []
numbers_or_none (Some numbers) = numbers

abbrev pub bound_of : List ℕ → List TableDef → Statement → Bound
bound_of script catalog statement = bound_in (in_scope script catalog (numbers_or_none (numbers_of script catalog (tables_of statement)))) statement
