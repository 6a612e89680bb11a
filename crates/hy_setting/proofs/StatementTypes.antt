-- Statements that binding does not refuse are of the types of their tables.
use Rattle.std.specs.Option.{option_map, option_map_or}
use Rattle.std.proofs.Common.{◌≡◌, ◌≢◌, ℕ, zero, suc, ◌<◌, true, false, List, [], ◌∷◌, ◌++◌, Option, None, Some, length, map, slice_get, get_or, refl}
use Rattle.std.proofs.Common.{sym, ap, ◌∙◌, subst, arith}
use Rattle.std.proofs.lemmas.Bool.{eqb-false}
use Rattle.std.proofs.lemmas.List.{length-map}
use Rattle.std.proofs.lemmas.Option.{slice_get-map, get_or_from_slice_get}
use Rattle.hy_value.specs.declared.Kind.{Kind}
use Rattle.hy_value.specs.declared.Kind.TheVariants.{Int}
use Rattle.hy_value.specs.declared.Value.{Value}
use Rattle.hy_schema.specs.declared.Column.{Column}
use Rattle.hy_schema.specs.declared.TableDef.{TableDef}
use Rattle.hy_schema.specs.Names.{table_number, table_at}
use Rattle.hy_token.specs.declared.Span.{Span}
use Rattle.hy_ast.specs.declared.Literal.{Literal}
use Rattle.hy_ast.specs.Trees.{Selection, SetClause, Statement, Test}
use Rattle.hy_ast.specs.Trees as tree
use Rattle.hy_bound.specs.declared.Assign.{Assign}
use Rattle.hy_bound.specs.Expression.{Expression}
use Rattle.hy_bound.specs.Records.{shape_of}
use Rattle.hy_column.specs.Cells.{FitsKind}
use Rattle.hy_chunk.specs.Sound.{FitsRow}
use Rattle.hy_chunk.specs.Writes.{FitsSet, FitsSets}
use Rattle.hy_bind.specs.Literals.{text_of_span, literal_value}
use Rattle.hy_bind.specs.Refusals.{agree}
use Rattle.hy_bind.specs.Scope.{Scope}
use Rattle.hy_bind.specs.Expressions.{formula_fault, formula_kind, formula_bound}
use Rattle.hy_bind.specs.Shapes.{catalog_shapes}
use Rattle.hy_bind.specs.Statements.{HasNames, and_number, numbers_or_none, in_scope, columns_in, key_in, is_key, kind_at, set_fault, set_column}
use Rattle.hy_bind.specs.Statements.{sets_fault, set_bound, fault_of_numbered, bound_in, bind_fault, bound_of}
use Rattle.hy_stepping.specs.Typed.{kinds_of, IsTypedIn}
use Rattle.hy_setting.specs.Kinds.{catalog_kinds}
use Rattle.hy_setting.proofs.CatalogTypes.{kinds_in, kinds_there, key_there, number_within, ordinal_within, table_kept}
use Rattle.hy_setting.proofs.FormulaTypes.{ResultIs, formula_is}
use Rattle.hy_setting.proofs.ValueTypes.{neither, so, not_so, IsOf, agrees, row_typed}

-- ---- SET

column_there : (columns : List Column) (ordinal : ℕ) → ordinal < length columns → (column : Column) × (slice_get columns ordinal ≡ Some column)
column_there [] ordinal within = absurd (omega (arith, within))
column_there (column ∷ columns) zero within = (column, refl)
column_there (column ∷ columns) (suc ordinal) within = column_there columns ordinal (omega (arith, within))

-- a value whose type agrees with a column's is of that column's type
value_at : (columns : List Column) (ordinal : ℕ) (column : Column) (kind : Option Kind) (value : Value) → slice_get columns ordinal ≡ Some column
    → agree kind (kind_at columns ordinal) ≡ true → IsOf kind value → FitsKind (get_or (kinds_in columns) ordinal Int) value
value_at columns ordinal column kind value is h of =
    let there : kind_at columns ordinal ≡ Some column.kind =
    ap (λ (found : Option Column). option_map_or (λ (c : Column). Some c.kind) found None) is in
    let its : get_or (kinds_in columns) ordinal Int ≡ column.kind =
    get_or_from_slice_get (kinds_in columns) ordinal column.kind Int
    (slice_get-map (λ (c : Column). c.kind) columns ordinal ∙ ap (option_map (λ (c : Column). c.kind)) is) in
    subst (λ (k : Kind). FitsKind k value) (sym its)
    (agrees kind column.kind value (subst (λ (k : Option Kind). agree kind k ≡ true) there h) of)

not_key : (key : Option ℕ) (ordinal : ℕ) → is_key key ordinal ≡ false → key ≢ Some ordinal
not_key None ordinal h same = absurd cc
not_key (Some key) ordinal h same = let equal : key ≡ ordinal = cc in eqb-false key ordinal h equal

abbrev assignment : Expression → Option ℕ → Assign
assignment value column = record { column = option_map_or (λ ordinal. ordinal) column 0; value = value }

module _ (script : List ℕ) (catalog : List TableDef) (number : ℕ) where
  abbrev columns : List Column
  columns = columns_in (table_at catalog number)

  abbrev scope : Scope
  scope = in_scope script catalog (number ∷ [])

  -- an assignment to a column of this number that is not refused is of the columns' types
  set_at : (set : SetClause) (column : Option ℕ) → set_column scope set ≡ column → set_fault scope set column ≡ None
      → FitsSet (kinds_in columns) (key_in (table_at catalog number)) (assignment (formula_bound scope set.value) column)
  set_at set None is h = absurd cc
  set_at set (Some ordinal) is h =
      let parts = neither (formula_fault scope set.value) _ h in
      let others = neither _ _ parts.1 in
      let within = ordinal_within columns (text_of_span script set.column) ordinal is in
      let there = column_there columns ordinal within in
      let many = length-map columns (λ (c : Column). c.kind) in
      record {
        column = omega (arith, within, many);
        typed = λ row value fits gives.
            value_at columns ordinal there.0 (formula_kind scope set.value) value there.1 (so _ _ others.0)
            (subst (ResultIs (formula_kind scope set.value)) gives (formula_is script catalog number set.value row parts.0 fits));
        spares_key = not_key (key_in (table_at catalog number)) ordinal (not_so _ _ others.1);
      }

  set_typed : (set : SetClause) → set_fault scope set (set_column scope set) ≡ None
      → FitsSet (kinds_in columns) (key_in (table_at catalog number)) (set_bound scope set)
  set_typed set h = set_at set (set_column scope set) refl h

  sets_typed : (sets : List SetClause) → sets_fault scope sets ≡ None
      → FitsSets (kinds_in columns) (key_in (table_at catalog number)) (map (set_bound scope) sets)
  sets_typed [] h = tt
  sets_typed (set ∷ sets) h =
      let parts = neither (set_fault scope set (set_column scope set)) (sets_fault scope sets) h in
      (set_typed set parts.0, sets_typed sets parts.1)

-- ---- all statements, with more tables behind

abbrev IsTypedOver : List TableDef → List TableDef → List ℕ → Option ℕ → Statement → Type 0
IsTypedOver catalog later script number s =
    IsTypedIn (catalog_kinds (catalog ++ later)) (catalog_shapes (catalog ++ later))
    (bound_in (in_scope script catalog (numbers_or_none (and_number number (Some [])))) s)

-- the types of a table that stands before others
kinds_before : (catalog later : List TableDef) (n : ℕ) → n < length catalog
    → kinds_of (catalog_kinds (catalog ++ later)) n ≡ kinds_in (columns_in (table_at catalog n))
kinds_before catalog later n within =
    kinds_there (catalog ++ later) n ∙ ap (λ (def : Option TableDef). kinds_in (columns_in def)) (table_kept catalog later n within)

-- and its key
key_before : (catalog later : List TableDef) (n : ℕ) → n < length catalog → (shape_of (catalog_shapes (catalog ++ later)) n).key ≡ key_in (table_at catalog n)
key_before catalog later n within = key_there (catalog ++ later) n ∙ ap key_in (table_kept catalog later n within)

insert_typed : (script : List ℕ) (catalog later : List TableDef) (table : Span) (row : List Literal) (number : Option ℕ)
    → table_number catalog (text_of_span script table) ≡ number
    → fault_of_numbered script catalog (and_number number (Some [])) (tree.Insert table row) ≡ None
    → IsTypedOver catalog later script number (tree.Insert table row)
insert_typed script catalog later table row None is h = absurd cc
insert_typed script catalog later table row (Some n) is h =
    subst (λ (kinds : List Kind). FitsRow kinds (map (literal_value script) row))
    (sym (kinds_before catalog later n (number_within catalog (text_of_span script table) n is)))
    (row_typed script (columns_in (table_at catalog n)) row (neither _ _ h).0)

update_typed : (script : List ℕ) (catalog later : List TableDef) (table : Span) (sets : List SetClause) (test : Option Test) (number : Option ℕ)
    → table_number catalog (text_of_span script table) ≡ number
    → fault_of_numbered script catalog (and_number number (Some [])) (tree.Update table sets test) ≡ None
    → IsTypedOver catalog later script number (tree.Update table sets test)
update_typed script catalog later table sets test None is h = absurd cc
update_typed script catalog later table sets test (Some n) is h =
    let within = number_within catalog (text_of_span script table) n is in
    let assigns : List Assign = map (set_bound (in_scope script catalog (n ∷ []))) sets in
    subst (λ (kinds : List Kind). FitsSets kinds (shape_of (catalog_shapes (catalog ++ later)) n).key assigns) (sym (kinds_before catalog later n within))
    (subst (λ (key : Option ℕ). FitsSets (kinds_in (columns_in (table_at catalog n))) key assigns) (sym (key_before catalog later n within))
    (sets_typed script catalog n sets (neither _ _ h).0))

selection_typed : (script : List ℕ) (catalog later : List TableDef) (selection : Selection)
    → IsTypedIn (catalog_kinds (catalog ++ later)) (catalog_shapes (catalog ++ later)) (bound_of script catalog (tree.Select selection))
selection_typed script catalog later (tree.Rows listed table joins test) = tt
selection_typed script catalog later (tree.Count table test) = tt
selection_typed script catalog later (tree.Groups column total table test key) = tt

-- a statement that is not refused is of the types of the tables, more of which may stand behind
pub statement_typed : (script : List ℕ) (catalog later : List TableDef) (s : Statement) → HasNames s → bind_fault script catalog s ≡ None
    → IsTypedIn (catalog_kinds (catalog ++ later)) (catalog_shapes (catalog ++ later)) (bound_of script catalog s)
statement_typed script catalog later (tree.Insert table row) names h =
    insert_typed script catalog later table row (table_number catalog (text_of_span script table)) refl h
statement_typed script catalog later (tree.Update table sets test) names h =
    update_typed script catalog later table sets test (table_number catalog (text_of_span script table)) refl h
statement_typed script catalog later (tree.Delete table test) names h = tt
statement_typed script catalog later (tree.Select selection) names h = selection_typed script catalog later selection
statement_typed script catalog later (tree.Savepoint name) names h = tt
statement_typed script catalog later (tree.RollbackTo name) names h = tt
statement_typed script catalog later (tree.Release name) names h = tt
statement_typed script catalog later _ names h = absurd names
