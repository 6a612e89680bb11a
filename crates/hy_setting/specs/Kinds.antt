-- The types of the columns of tables that are defined.
use Rattle.std.specs.Prelude.{List, map}
use Rattle.hy_value.specs.declared.Kind.{Kind}
use Rattle.hy_schema.specs.declared.TableDef.{TableDef}

-- of each table
abbrev pub catalog_kinds : List TableDef → List (List Kind)
catalog_kinds catalog = map (λ table. map (λ column. column.kind) table.columns) catalog
