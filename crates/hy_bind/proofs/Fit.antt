-- Statements that are not refused fit the tables of their catalog.
use Rattle.std.specs.List.{All}
use Rattle.std.proofs.Common.{◌≡◌, ℕ, ◌<◌, List, [], ◌∷◌, Option, Some, None, map, length, refl, arith}
use Rattle.std.proofs.lemmas.List.{length-map}
use Rattle.hy_token.specs.declared.Span.{Span}
use Rattle.hy_schema.specs.declared.TableDef.{TableDef}
use Rattle.hy_schema.specs.Names.{table_names, table_number}
use Rattle.hy_ast.specs.declared.Join.{Join}
use Rattle.hy_ast.specs.declared.Listed.{Listed}
use Rattle.hy_ast.specs.Trees.{Selection, Statement, Test}
use Rattle.hy_ast.specs.Trees as tree
use Rattle.hy_bound.specs.Agreement.{HasItsKey}
use Rattle.hy_bound.specs.Records.{no_shape}
use Rattle.hy_bound.specs.Fits.{FitsStatement}
use Rattle.hy_bind.specs.Literals.{text_of_span}
use Rattle.hy_bind.specs.Shapes.{defined_shape, catalog_shapes}
use Rattle.hy_bind.specs.Statements.{HasNames, and_number, numbers_of, numbers_or_none, fault_in, fault_of_numbered, in_scope, bound_in, bind_fault, bound_of}
use Rattle.hy_bind.proofs.Numbered.{number_within}
use Rattle.hy_bind.proofs.Reach.{where_within}
use Rattle.hy_bind.proofs.Selects.{rows_fit, count_fits, group_fits, at_shape}
use Rattle.hy_bind.proofs.Named.{all_named}
use Rattle.hy_bind.proofs.Writes.{insert_fits, update_fits}

-- what is true of a statement in the scope of a table that is there is true of one that names one table
one_table : (script : List ℕ) (catalog : List TableDef) (table : Span) (s : Statement) (number : Option ℕ) → table_number catalog (text_of_span script table) ≡ number
    → ((n : ℕ) → n < length (catalog_shapes catalog) → fault_in (in_scope script catalog (n ∷ [])) s ≡ None → FitsStatement (catalog_shapes catalog) (bound_in (in_scope script catalog (n ∷ [])) s))
    → fault_of_numbered script catalog (and_number number (Some [])) s ≡ None → FitsStatement (catalog_shapes catalog) (bound_in (in_scope script catalog (numbers_or_none (and_number number (Some [])))) s)
one_table script catalog table s None is fits h = absurd cc
one_table script catalog table s (Some n) is fits h =
    let within = number_within (table_names catalog) (text_of_span script table) n is in
    let names = length-map catalog (λ (def : TableDef). def.name) in
    let shapes = length-map catalog defined_shape in
    fits n (omega (arith, within, names, shapes)) h

-- a SELECT of columns or of a sum
rows : (script : List ℕ) (catalog : List TableDef) (listed : Listed) (table : Span) (joins : List Join) (test : Option Test) (numbers : Option (List ℕ))
    → numbers_of script catalog (table ∷ map (λ (join : Join). join.table) joins) ≡ numbers → fault_of_numbered script catalog numbers (tree.Select (tree.Rows listed table joins test)) ≡ None
    → FitsStatement (catalog_shapes catalog) (bound_in (in_scope script catalog (numbers_or_none numbers)) (tree.Select (tree.Rows listed table joins test)))
rows script catalog listed table joins test None is h = absurd cc
rows script catalog listed table joins test (Some numbers) is h =
    rows_fit script catalog numbers listed table joins test (all_named script catalog (table ∷ map (λ (join : Join). join.table) joins) numbers is) h

selection : (script : List ℕ) (catalog : List TableDef) (select : Selection) → bind_fault script catalog (tree.Select select) ≡ None
    → FitsStatement (catalog_shapes catalog) (bound_of script catalog (tree.Select select))
selection script catalog (tree.Rows listed table joins test) h = rows script catalog listed table joins test _ refl h
selection script catalog (tree.Count table test) h =
    one_table script catalog table (tree.Select (tree.Count table test)) _ refl (λ n there fine. count_fits script catalog n test there fine) h
selection script catalog (tree.Groups column total table test key) h =
    one_table script catalog table (tree.Select (tree.Groups column total table test key)) _ refl (λ n there fine. (there, group_fits script catalog n column total test key fine)) h

-- a statement that is not refused fits the tables, where each table's key is one of its columns
pub fit : (script : List ℕ) (catalog : List TableDef) (s : Statement) → HasNames s → All HasItsKey (catalog_shapes catalog) → bind_fault script catalog s ≡ None
    → FitsStatement (catalog_shapes catalog) (bound_of script catalog s)
fit script catalog (tree.Insert table row) names keys h =
    one_table script catalog table (tree.Insert table row) _ refl (λ n there fine. (there, insert_fits script catalog n row (keys n no_shape there) fine)) h
fit script catalog (tree.Update table sets test) names keys h =
    one_table script catalog table (tree.Update table sets test) _ refl (λ n there fine. (there, update_fits script catalog n sets test fine)) h
fit script catalog (tree.Delete table test) names keys h =
    one_table script catalog table (tree.Delete table test) _ refl (λ n there fine. (there, at_shape catalog n _ (where_within (in_scope script catalog (n ∷ [])) test fine))) h
fit script catalog (tree.Select select) names keys h = selection script catalog select h
fit script catalog (tree.Savepoint name) names keys h = tt
fit script catalog (tree.RollbackTo name) names keys h = tt
fit script catalog (tree.Release name) names keys h = tt
fit script catalog _ names keys h = absurd names
