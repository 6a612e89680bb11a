-- A short statement that nothing is against isn't refused, and what the engine runs is made of the numbers that were found.
use Rattle.std.proofs.Common.{◌≡◌, ℕ, ◌+◌, ℤ, List, [], ◌∷◌, Option, Some, None, false, refl, sym, ap, ◌∙◌, map, slice_get, arith}
use Rattle.std.specs.Option.{option_and_then, option_map, option_map_or}
use Rattle.hy_token.specs.declared.Span.{Span}
use Rattle.hy_value.specs.declared.Cmp.TheVariants.{Eq}
use Rattle.hy_value.specs.declared.Kind.{Kind}
use Rattle.hy_value.specs.declared.Kind.TheVariants as kinds
use Rattle.hy_value.specs.declared.Value.TheVariants.{Int}
use Rattle.hy_ast.specs.declared.ShortSelection.{ShortSelection}
use Rattle.hy_ast.specs.declared.ShortSet.{ShortSet}
use Rattle.hy_ast.specs.declared.ShortTest.{ShortTest}
use Rattle.hy_ast.specs.Trees.{clause_of_short, selection_of_short, test_of_short, unqualified}
use Rattle.hy_bound.specs.Condition.{Condition, Compare}
use Rattle.hy_bound.specs.Expression.{Column, Literal}
use Rattle.hy_bound.specs.declared.Assign.{Assign}
use Rattle.hy_bound.specs.declared.Bound.TheVariants as bound
use Rattle.hy_bound.specs.declared.Items.TheVariants as items
use Rattle.hy_bound.specs.declared.predicate.Side.TheVariants as sides
use Rattle.hy_schema.specs.declared.Column as schema
use Rattle.hy_schema.specs.declared.TableDef.{TableDef}
use Rattle.hy_schema.specs.Names.{column_number, table_at}
use Rattle.hy_bind.proofs.Alone.{alone}
use Rattle.hy_bind.specs.declared.scope.Found.{Found}
use Rattle.hy_bind.specs.ShortForms.{FitsSet, FitsTest, MayBeSet, MeansNumbers}
use Rattle.hy_bind.specs.Conditions.{where_bound}
use Rattle.hy_bind.specs.Expressions.{binary_bound}
use Rattle.hy_bind.specs.Literals.{integer_of, number_of, text_of_span}
use Rattle.hy_bind.specs.Scope.{Scope, found_in, resolved}
use Rattle.hy_bind.specs.Statements.{columns_in, columns_of, kind_at, selection_bound, selection_fault, set_bound, update_fault}

-- ---- names

from_none : (column : ℕ) → 0 + column ≡ column
from_none column = omega arith

of_kind : (table column : ℕ) (found : Option schema.Column) → option_map_or (λ c. Some c.kind) found None ≡ Some kinds.Int
    → option_map {U = Found} (λ c. record { table = table; column = 0 + column; kind = c.kind }) found
    ≡ Some (record { table = table; column = column; kind = kinds.Int })
of_kind table column None is = absurd cc
of_kind table column (Some c) is = rw (from_none column)
    (ap (λ (kind : Option Kind). option_map {U = Found} (λ k. record { table = table; column = column; kind = k }) kind) is)

pub means : (scope : Scope) (name : Span) (table : ℕ) (def : TableDef) (column : ℕ) (found : schema.Column)
    → scope.tables ≡ table ∷ [] → table_at scope.catalog table ≡ Some def → column_number def.columns (text_of_span scope.script name) ≡ Some column
    → slice_get def.columns column ≡ Some found → found.kind ≡ kinds.Int → MeansNumbers scope name column
means scope name table def column found one there named has kind = record {
  table = table;
  alone = one;
  found = rw there named;
  numbers = rw (there, has, kind) refl;
}

found_by_name : (script : List ℕ) (name : Span) (table : ℕ) (def : Option TableDef) (column : ℕ)
    → column_number (columns_in def) (text_of_span script name) ≡ Some column → kind_at (columns_in def) column ≡ Some kinds.Int
    → option_and_then (found_in script (unqualified name) table 0) def ≡ Some (record { table = table; column = column; kind = kinds.Int })
found_by_name script name table None column found numbers = absurd cc
found_by_name script name table (Some def) column found numbers = rw found (of_kind table column (slice_get def.columns column) numbers)

resolves : (scope : Scope) (name : Span) (column : ℕ) (means : MeansNumbers scope name column)
    → resolved scope (unqualified name) ≡ Some (record { table = means.table; column = column; kind = kinds.Int })
resolves scope name column means = rw means.alone (sym (alone scope.script scope.catalog (unqualified name) means.table)
    ∙ found_by_name scope.script name means.table (table_at scope.catalog means.table) column means.found means.numbers)

of_that_name : (scope : Scope) (name : Span) (column : ℕ) → MeansNumbers scope name column
    → column_number (columns_of scope) (text_of_span scope.script name) ≡ Some column
of_that_name scope name column means = rw means.alone means.found

of_numbers : (scope : Scope) (name : Span) (column : ℕ) → MeansNumbers scope name column → kind_at (columns_of scope) column ≡ Some kinds.Int
of_numbers scope name column means = rw means.alone means.numbers

-- ---- conditions

pub test_fits : (scope : Scope) (test : ShortTest) (column : ℕ) (number : ℤ) (pred : Condition)
    → pred ≡ Compare column Eq (sides.Literal (Int number))
    → MeansNumbers scope test.column column → integer_of false (number_of (text_of_span scope.script test.digits)) ≡ Some number
    → FitsTest scope test pred
test_fits scope test column number pred is means writes = record {
  fits = rw (resolves scope test.column column means, writes) refl;
  made = is ∙ rw (resolves scope test.column column means, writes) refl;
}

-- ---- UPDATE

pub set_fits : (scope : Scope) (set : ShortSet) (column left : ℕ) (number : ℤ) (assign : Assign)
    → assign ≡ record { column = column; value = binary_bound set.op (Column left) (Literal (Int number)) }
    → MayBeSet scope set.column column → MeansNumbers scope set.left left
    → integer_of false (number_of (text_of_span scope.script set.digits)) ≡ Some number
    → FitsSet scope set assign
set_fits scope set column left number assign is sets means writes = record {
  fits = rw (
    of_that_name scope set.column column sets.means,
    of_numbers scope set.column column sets.means,
    sets.no_key,
    resolves scope set.left left means,
    writes,
  ) refl;
  made = is ∙ rw (of_that_name scope set.column column sets.means, resolves scope set.left left means, writes) refl;
}

pub update_fits : (scope : Scope) (set : ShortSet) (test : ShortTest) (assign : Assign) (pred : Condition)
    → FitsSet scope set assign → FitsTest scope test pred
    → update_fault scope (clause_of_short set ∷ []) (Some (test_of_short test)) ≡ None
update_fits scope set test assign pred s t = rw (s.fits, t.fits) refl

pub update_bound : (scope : Scope) (set : ShortSet) (test : ShortTest) (assign : Assign) (pred : Condition) (table : ℕ)
    → FitsSet scope set assign → FitsTest scope test pred
    → bound.Update table (assign ∷ []) pred
    ≡ bound.Update table (map (set_bound scope) (clause_of_short set ∷ [])) (where_bound scope (Some (test_of_short test)))
update_bound scope set test assign pred table s t = rw (s.made, t.made) refl

-- ---- SELECT

pub select_fits : (scope : Scope) (short : ShortSelection) (found : Found) (pred : Condition)
    → resolved scope (unqualified short.column) ≡ Some found → FitsTest scope short.test pred
    → selection_fault scope (selection_of_short short) ≡ None
select_fits scope short found pred is t = rw (is, t.fits) refl

pub select_bound : (scope : Scope) (short : ShortSelection) (found : Found) (pred : Condition)
    → resolved scope (unqualified short.column) ≡ Some found → FitsTest scope short.test pred
    → bound.Select scope.tables [] pred (items.Columns (found.column ∷ []))
    ≡ selection_bound scope (selection_of_short short)
select_bound scope short found pred is t = rw (is, t.made) refl
