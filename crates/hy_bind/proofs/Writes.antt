-- INSERTs, UPDATEs and DELETEs that are not refused fit their tables.
use Rattle.std.specs.Prelude.{slice_index_or, is_some, is_none}
use Rattle.std.specs.List.{All, AllPairs, AllByRecursion}
use Rattle.std.specs.Option.{option_map_or}
use Rattle.std.proofs.Common.{◌≡◌, ◌≢◌, ℕ, ℤ, zero, suc, ◌<◌, false, List, [], ◌∷◌, Option, Some, None, map, length, slice_get, refl, sym, ap, ◌∙◌, subst, arith}
use Rattle.std.proofs.lemmas.Bool.{eqb-false}
use Rattle.std.proofs.lemmas.List.{length-map}
use Rattle.std.proofs.lemmas.List.Elements.{All-map, All-weaker}
use Rattle.hy_value.specs.declared.Value.TheVariants as values
use Rattle.hy_schema.specs.declared.Column.{Column}
use Rattle.hy_schema.specs.declared.TableDef.{TableDef}
use Rattle.hy_schema.specs.Names.{column_names, table_at}
use Rattle.hy_ast.specs.declared.Literal.{Literal}
use Rattle.hy_ast.specs.declared.Literal.TheVariants.{Null, Integer, Text}
use Rattle.hy_ast.specs.Trees.{SetClause, Test}
use Rattle.hy_bound.specs.declared.Assign.{Assign}
use Rattle.hy_bound.specs.Agreement.{HasItsKey}
use Rattle.hy_bound.specs.Records.{columns_read, set_columns, shape_of}
use Rattle.hy_bound.specs.Fits.{LieWithin, FitsInsert, FitsUpdate}
use Rattle.hy_bind.specs.declared.refusals.BindFault.TheVariants as fault
use Rattle.hy_bind.specs.Literals.{text_of_span, integer_of, integer_value, number_of, literal_fault, literal_value}
use Rattle.hy_bind.specs.Refusals.{fault_if}
use Rattle.hy_bind.specs.Scope.{Scope, width_of}
use Rattle.hy_bind.specs.Conditions.{where_fault, where_bound}
use Rattle.hy_bind.specs.Expressions.{formula_fault, formula_bound}
use Rattle.hy_bind.specs.Shapes.{catalog_shapes}
use Rattle.hy_bind.specs.Statements.{in_scope, columns_in, columns_of, key_of, value_fault, values_fault, is_null, key_fault, insert_fault, is_key, set_fault, set_column, sets_fault, update_fault, set_bound, repeats}
use Rattle.hy_bind.proofs.Causes.{neither, not_so, none_of_all}
use Rattle.hy_bind.proofs.Numbered.{name_at, number_names, names_differ, pictures_differ}
use Rattle.hy_bind.proofs.Reach.{scope_width, ordinal_within, formula_within, where_within, both_within, none_within}
use Rattle.hy_bind.proofs.Selects.{at_shape}
use Rattle.hy_bind.proofs.Named.{width_is, key_is}

many_columns : (def : Option TableDef) → length (columns_in def) ≡ width_of def
many_columns None = refl
many_columns (Some def) = refl

-- the columns of a statement's one table are as many as its shape says
width_there : (script : List ℕ) (catalog : List TableDef) (number : ℕ) → length (columns_of (in_scope script catalog (number ∷ []))) ≡ (shape_of (catalog_shapes catalog) number).width
width_there script catalog number = many_columns (table_at catalog number) ∙ width_is catalog number

-- ---- INSERT

as_many_values : (script : List ℕ) (columns : List Column) (row : List Literal) → values_fault script columns row ≡ None → length row ≡ length columns
as_many_values script [] [] h = refl
as_many_values script [] (value ∷ row) h = absurd cc
as_many_values script (column ∷ columns) [] h = absurd cc
as_many_values script (column ∷ columns) (value ∷ row) h = ap suc (as_many_values script columns row (neither (value_fault script column value) (values_fault script columns row) h).1)

literals_fine : (script : List ℕ) (columns : List Column) (row : List Literal) → values_fault script columns row ≡ None → AllByRecursion (λ value. literal_fault script value ≡ None) row
literals_fine script [] [] h = tt
literals_fine script [] (value ∷ row) h = absurd cc
literals_fine script (column ∷ columns) [] h = absurd cc
literals_fine script (column ∷ columns) (value ∷ row) h =
    let parts = neither (value_fault script column value) (values_fault script columns row) h in
    ((neither (literal_fault script value) _ parts.0).0, literals_fine script columns row parts.1)

number_known : (number : Option ℤ) → fault_if (is_none number) fault.TooBig ≡ None → integer_value number ≢ values.Null
number_known None h = absurd cc
number_known (Some n) h = λ same. absurd cc

-- a literal other than NULL is a value other than NULL
literal_known : (script : List ℕ) (value : Literal) → literal_fault script value ≡ None → is_null (Some value) ≡ false → literal_value script value ≢ values.Null
literal_known script (Null span) h known = absurd cc
literal_known script (Integer minus digits) h known = number_known (integer_of (is_some minus) (number_of (text_of_span script digits))) h
literal_known script (Text span) h known = λ same. absurd cc

key_known : (script : List ℕ) (row : List Literal) (key : ℕ) → key < length row → AllByRecursion (λ value. literal_fault script value ≡ None) row → is_null (slice_get row key) ≡ false
    → slice_index_or (map (literal_value script) row) key values.Null ≢ values.Null
key_known script [] key within fine known = absurd (omega (arith, within))
key_known script (value ∷ row) zero within fine known = literal_known script value fine.0 known
key_known script (value ∷ row) (suc key) within fine known = key_known script row key (omega (arith, within)) fine.1 known

-- an INSERT
pub insert_fits : (script : List ℕ) (catalog : List TableDef) (number : ℕ) (row : List Literal) → HasItsKey (shape_of (catalog_shapes catalog) number)
    → insert_fault (in_scope script catalog (number ∷ [])) row ≡ None → FitsInsert (shape_of (catalog_shapes catalog) number) (map (literal_value script) row)
insert_fits script catalog number row has h =
    let scope : Scope = in_scope script catalog (number ∷ []) in
    let parts = neither (values_fault script (columns_of scope) row) (key_fault (key_of scope) row) h in
    let many = as_many_values script (columns_of scope) row parts.0 in
    let width = width_there script catalog number in
    let mapped = length-map row (literal_value script) in
    record {
      width = omega (arith, many, width, mapped);
      known = λ key is.
          let within = has key is in
          let known : fault_if (is_null (slice_get row key)) fault.KeyNull ≡ None = subst (λ (k : Option ℕ). key_fault k row ≡ None) (key_is catalog number ∙ is) parts.1 in
          key_known script row key (omega (arith, within, many, width)) (literals_fine script (columns_of scope) row parts.0) (not_so (is_null (slice_get row key)) fault.KeyNull known);
    }

-- ---- UPDATE

-- an assignment sets a column that is there and is not the key, to a value that is not refused
record Sets (scope : Scope) (set : SetClause) : Type 0 where
  ordinal : ℕ
  is : set_column scope set ≡ Some ordinal
  value : formula_fault scope set.value ≡ None
  spares_key : is_key (key_of scope) ordinal ≡ false

sets_one : (scope : Scope) (set : SetClause) (ordinal : Option ℕ) → set_column scope set ≡ ordinal → set_fault scope set ordinal ≡ None → Sets scope set
sets_one scope set None is h = absurd cc
sets_one scope set (Some ordinal) is h =
    let parts = neither (formula_fault scope set.value) _ h in
    record { ordinal = ordinal; is = is; value = parts.0; spares_key = not_so _ _ (neither _ _ parts.1).1 }

all_set : (scope : Scope) (sets : List SetClause) → sets_fault scope sets ≡ None → All (Sets scope) sets
all_set scope sets h =
    All-weaker (λ (set : SetClause). set_fault scope set (set_column scope set) ≡ None) (Sets scope) (λ set fine. sets_one scope set (set_column scope set) refl fine) sets
    (none_of_all (λ (set : SetClause). set_fault scope set (set_column scope set)) sets h)

set_ordinal : (scope : Scope) (set : SetClause) (sets : Sets scope set) → (set_bound scope set).column ≡ sets.ordinal
set_ordinal scope set sets = ap (λ (ordinal : Option ℕ). option_map_or (λ n. n) ordinal 0) sets.is

column_set : (scope : Scope) (set : SetClause) → Sets scope set → (set_bound scope set).column < length (columns_of scope)
column_set scope set sets =
    let ordinal = set_ordinal scope set sets in
    let within = ordinal_within (columns_of scope) (text_of_span scope.script set.column) sets.ordinal sets.is in
    omega (arith, ordinal, within)

not_key : (key : Option ℕ) (ordinal : ℕ) → is_key key ordinal ≡ false → key ≢ Some ordinal
not_key None ordinal h same = absurd cc
not_key (Some key) ordinal h same = let equal : key ≡ ordinal = cc in eqb-false key ordinal h equal

spares_key : (scope : Scope) (set : SetClause) → Sets scope set → key_of scope ≢ Some (set_bound scope set).column
spares_key scope set sets same = not_key (key_of scope) sets.ordinal sets.spares_key (same ∙ ap (λ n. Some n) (set_ordinal scope set sets))

values_within : (scope : Scope) (sets : List SetClause) → sets_fault scope sets ≡ None → LieWithin (scope_width scope) (set_columns (map (set_bound scope) sets))
values_within scope [] h = none_within (scope_width scope)
values_within scope (set ∷ sets) h =
    let parts = neither (set_fault scope set (set_column scope set)) (sets_fault scope sets) h in
    let one = sets_one scope set (set_column scope set) refl parts.0 in
    both_within (scope_width scope) (columns_read (formula_bound scope set.value)) (set_columns (map (set_bound scope) sets)) (formula_within scope set.value one.value) (values_within scope sets parts.1)

abbrev columns_set : Scope → List SetClause → List ℕ
columns_set scope sets = map (λ (assign : Assign). assign.column) (map (set_bound scope) sets)

-- the names of the columns that are set
names_set : (scope : Scope) (sets : List SetClause) → sets_fault scope sets ≡ None
    → map (name_at (column_names (columns_of scope))) (columns_set scope sets) ≡ map (text_of_span scope.script) (map (λ (set : SetClause). set.column) sets)
names_set scope [] h = refl
names_set scope (set ∷ sets) h =
    let parts = neither (set_fault scope set (set_column scope set)) (sets_fault scope sets) h in
    let one = sets_one scope set (set_column scope set) refl parts.0 in
    let name = ap (name_at (column_names (columns_of scope))) (set_ordinal scope set one) ∙ number_names (column_names (columns_of scope)) (text_of_span scope.script set.column) one.ordinal one.is in
    let rest = names_set scope sets parts.1 in
    cc

-- where no name repeats they differ
once : (scope : Scope) (sets : List SetClause) → sets_fault scope sets ≡ None → repeats (map (text_of_span scope.script) (map (λ (set : SetClause). set.column) sets)) ≡ false
    → AllPairs (λ (one other : Assign). one.column ≢ other.column) (map (set_bound scope) sets)
once scope sets h different =
    let names = subst (λ (names : List (List ℕ)). AllPairs (λ one other. one ≢ other) names) (sym (names_set scope sets h)) (names_differ _ different) in
    let ordinals = pictures_differ (name_at (column_names (columns_of scope))) (columns_set scope sets) names in
    pictures_differ (λ (assign : Assign). assign.column) (map (set_bound scope) sets)
    (λ i j d before within same. ordinals i j d before within (ap (name_at (column_names (columns_of scope))) same))

-- an UPDATE
pub update_fits : (script : List ℕ) (catalog : List TableDef) (number : ℕ) (sets : List SetClause) (test : Option Test) → update_fault (in_scope script catalog (number ∷ [])) sets test ≡ None
    → FitsUpdate (shape_of (catalog_shapes catalog) number) (map (set_bound (in_scope script catalog (number ∷ []))) sets) (where_bound (in_scope script catalog (number ∷ [])) test)
update_fits script catalog number sets test h =
    let scope : Scope = in_scope script catalog (number ∷ []) in
    let shape = shape_of (catalog_shapes catalog) number in
    let parts = neither (sets_fault scope sets) _ h in
    let others = neither _ (where_fault scope test) parts.1 in
    let all = all_set scope sets parts.0 in
    let width = width_there script catalog number in
    record {
      set =
          All-map (λ (c : ℕ). c < shape.width) (λ (assign : Assign). assign.column) (map (set_bound scope) sets)
          (All-map (λ (assign : Assign). assign.column < shape.width) (set_bound scope) sets
          (All-weaker (Sets scope) (λ (set : SetClause). (set_bound scope set).column < shape.width) (λ set one. let within = column_set scope set one in omega (arith, within, width)) sets all));
      once = once scope sets parts.0 (not_so _ _ others.0);
      spares_key =
          All-map (λ (assign : Assign). shape.key ≢ Some assign.column) (set_bound scope) sets
          (All-weaker (Sets scope) (λ (set : SetClause). shape.key ≢ Some (set_bound scope set).column) (λ set one same. spares_key scope set one (key_is catalog number ∙ same)) sets all);
      values = at_shape catalog number _ (values_within scope sets parts.0);
      filter = at_shape catalog number _ (where_within scope test others.1);
    }
