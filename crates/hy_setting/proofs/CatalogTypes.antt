-- The columns of the tables of a catalog: their types, and which of them is the key.
use Rattle.std.specs.List.{AllZip}
use Rattle.std.proofs.Common.{◌≡◌, ℕ, zero, suc, ◌<◌, List, [], ◌∷◌, ◌++◌, Some, map, length, refl, arith}
use Rattle.std.proofs.lemmas.List.{length-map}
use Rattle.std.proofs.lemmas.List.Quantifiers.{position-Some}
use Rattle.std.specs.Str.{bytes_eq}
use Rattle.hy_value.specs.declared.Kind.{Kind}
use Rattle.hy_schema.specs.declared.Column.{Column}
use Rattle.hy_schema.specs.declared.TableDef.{TableDef}
use Rattle.hy_schema.specs.Names.{table_names, table_number, column_names, column_number, table_at}
use Rattle.hy_bound.specs.declared.Shape.{Shape}
use Rattle.hy_bound.specs.Records.{shape_of}
use Rattle.hy_bind.specs.Shapes.{catalog_shapes}
use Rattle.hy_bind.specs.Statements.{columns_in, key_in}
use Rattle.hy_stepping.specs.Typed.{kinds_of}
use Rattle.hy_setting.specs.Kinds.{catalog_kinds}

abbrev pub kinds_in : List Column → List Kind
kinds_in columns = map (λ (column : Column). column.kind) columns

-- the types of a table's columns
pub kinds_there : (catalog : List TableDef) (n : ℕ) → kinds_of (catalog_kinds catalog) n ≡ kinds_in (columns_in (table_at catalog n))
kinds_there [] n = refl
kinds_there (def ∷ catalog) zero = refl
kinds_there (def ∷ catalog) (suc n) = kinds_there catalog n

-- its key
pub key_there : (catalog : List TableDef) (n : ℕ) → (shape_of (catalog_shapes catalog) n).key ≡ key_in (table_at catalog n)
key_there [] n = refl
key_there (def ∷ catalog) zero = refl
key_there (def ∷ catalog) (suc n) = key_there catalog n

-- each table has a type for each of its columns
pub tables_typed : (catalog : List TableDef)
    → AllZip (λ (shape : Shape) (types : List Kind). length types ≡ shape.width) (catalog_shapes catalog) (catalog_kinds catalog)
tables_typed [] = tt
tables_typed (def ∷ catalog) = (length-map def.columns (λ (column : Column). column.kind), tables_typed catalog)

-- a table that has a number is there
pub number_within : (catalog : List TableDef) (name : List ℕ) (n : ℕ) → table_number catalog name ≡ Some n → n < length catalog
number_within catalog name n is =
    let within = (position-Some (bytes_eq name) (table_names catalog) n [] is).0 in
    let many = length-map catalog (λ (def : TableDef). def.name) in
    omega (arith, within, many)

-- so is a column
pub ordinal_within : (columns : List Column) (name : List ℕ) (ordinal : ℕ) → column_number columns name ≡ Some ordinal → ordinal < length columns
ordinal_within columns name ordinal is =
    let within = (position-Some (bytes_eq name) (column_names columns) ordinal [] is).0 in
    let many = length-map columns (λ (column : Column). column.name) in
    omega (arith, within, many)

-- more tables leave it as it is
pub table_kept : (catalog later : List TableDef) (n : ℕ) → n < length catalog → table_at (catalog ++ later) n ≡ table_at catalog n
table_kept [] later n within = absurd (omega (arith, within))
table_kept (def ∷ catalog) later zero within = refl
table_kept (def ∷ catalog) later (suc n) within = table_kept catalog later n (omega (arith, within))
