-- That the values which are bound over tables are of the types of their columns.
use Rattle.std.specs.Prelude.{◌≡◌, ℕ, List, length, map}
use Rattle.std.specs.List.{AllZip}
use Rattle.hy_value.specs.declared.Kind.{Kind}
use Rattle.hy_value.specs.declared.Value.{Value}
use Rattle.hy_schema.specs.declared.TableDef.{TableDef}
use Rattle.hy_bound.specs.declared.Bound.{Bound}
use Rattle.hy_bound.specs.declared.Shape.{Shape}
use Rattle.hy_bind.specs.Shapes.{catalog_shapes}
use Rattle.hy_chunk.specs.Sound.{FitsRow}
use Rattle.hy_script.specs.Binding.{WasBound, WasGiven}
use Rattle.hy_stepping.specs.Typed.{IsTypedIn}
use Rattle.hy_setting.specs.Kinds.{catalog_kinds}

-- Each table has a type for each of its columns; a first row is of its table's types, and a statement of the types of the table that
-- it writes in.
pub record WhatIsBoundIsTyped : Type 0 where
  pub tables : (catalog : List TableDef)
      → AllZip (λ (shape : Shape) (types : List Kind). length types ≡ shape.width) (catalog_shapes catalog) (catalog_kinds catalog)
  pub rows : (script : List ℕ) (def : TableDef) (row : List Value) → WasGiven script def row → FitsRow (map (λ column. column.kind) def.columns) row
  pub statements : (script : List ℕ) (catalog : List TableDef) (bound : Bound) → WasBound script catalog bound
      → IsTypedIn (catalog_kinds catalog) (catalog_shapes catalog) bound
