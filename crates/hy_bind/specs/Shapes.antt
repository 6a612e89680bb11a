-- The tables of a catalog as statements that run see them.
use Rattle.std.specs.Prelude.{List, length, map}
use Rattle.hy_schema.specs.declared.TableDef.{TableDef}
use Rattle.hy_bound.specs.declared.Shape.{Shape}

-- the shape of a table: how many columns it has, and its key
abbrev pub defined_shape : TableDef → Shape
defined_shape def = record { width = length def.columns; key = def.key }

-- the shapes of a catalog's tables, by number
abbrev pub catalog_shapes : List TableDef → List Shape
catalog_shapes catalog = map defined_shape catalog
