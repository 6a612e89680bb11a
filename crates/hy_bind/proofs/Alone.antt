-- Among the columns of one table alone, what is found is what is meant.
use Rattle.std.specs.Prelude.{◌≡◌, ℕ, List, [], ◌∷◌, Option, Some, None, refl}
use Rattle.std.specs.Option.{option_and_then}
use Rattle.hy_schema.specs.declared.TableDef.{TableDef}
use Rattle.hy_schema.specs.Names.{table_at}
use Rattle.hy_ast.specs.declared.ColumnRef.{ColumnRef}
use Rattle.hy_bind.specs.declared.scope.Found.{Found}
use Rattle.hy_bind.specs.declared.scope.Search.TheVariants.{Nowhere}
use Rattle.hy_bind.specs.Scope.{found_in, and_found, only, searched}

only_one : (found : Option Found) → found ≡ only (and_found Nowhere found)
only_one None = refl
only_one (Some found) = refl

pub alone : (script : List ℕ) (catalog : List TableDef) (reference : ColumnRef) (table : ℕ)
    → option_and_then (found_in script reference table 0) (table_at catalog table) ≡ only (searched script catalog reference 0 Nowhere (table ∷ []))
alone script catalog reference table = only_one (option_and_then (found_in script reference table 0) (table_at catalog table))
