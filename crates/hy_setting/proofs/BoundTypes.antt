-- What was bound over tables and not refused is of the types of their columns.
use Rattle.std.proofs.Common.{ℕ, List, ◌++◌, sym, subst}
use Rattle.hy_value.specs.declared.Value.{Value}
use Rattle.hy_schema.specs.declared.TableDef.{TableDef}
use Rattle.hy_bound.specs.declared.Bound.{Bound}
use Rattle.hy_bind.specs.Shapes.{catalog_shapes}
use Rattle.hy_chunk.specs.Sound.{FitsRow}
use Rattle.hy_script.specs.Binding.{WasGiven, WasBound}
use Rattle.hy_stepping.specs.Typed.{IsTypedIn}
use Rattle.hy_setting.specs.Kinds.{catalog_kinds}
use Rattle.hy_setting.proofs.CatalogTypes.{kinds_in}
use Rattle.hy_setting.proofs.StatementTypes.{statement_typed}
use Rattle.hy_setting.proofs.ValueTypes.{row_typed}

-- a first row
pub row_given : (script : List ℕ) (def : TableDef) (row : List Value) → WasGiven script def row → FitsRow (kinds_in def.columns) row
row_given script def row was = subst (FitsRow (kinds_in def.columns)) (sym was.is) (row_typed script def.columns was.values was.accepted)

abbrev IsTypedBy : List TableDef → Bound → Type 0
IsTypedBy catalog bound = IsTypedIn (catalog_kinds catalog) (catalog_shapes catalog) bound

-- a statement, which was bound over the first of the tables
pub statement_bound : (script : List ℕ) (catalog : List TableDef) (bound : Bound) → WasBound script catalog bound → IsTypedBy catalog bound
statement_bound script catalog bound was =
    let typed = statement_typed script was.earlier was.later was.statement was.names was.accepted in
    subst (λ (tables : List TableDef). IsTypedBy tables bound) (sym was.tables) (subst (IsTypedBy (was.earlier ++ was.later)) (sym was.is) typed)
