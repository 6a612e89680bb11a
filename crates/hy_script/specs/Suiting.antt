-- A statement that suits the open transaction that it stands in.
use Rattle.std.specs.Prelude.{ℕ, ◌<◌, List, IsTrue}
use Rattle.hy_schema.specs.declared.TableDef.{TableDef}
use Rattle.hy_bound.specs.declared.Bound.{Bound}
use Rattle.hy_bound.specs.Fits.{FitsStatement, MayStand}
use Rattle.hy_bound.specs.OpenSavepoints.{is_opened}
use Rattle.hy_bind.specs.Shapes.{catalog_shapes}
use Rattle.hy_script.specs.declared.judging.Standing.{Standing}
use Rattle.hy_script.specs.Binding.{WasBound}
use Rattle.hy_limits.specs.declared.TheConstants.{MOST_STATEMENTS}

-- it was bound over the tables, which it fits; it may stand in the transaction, where there is room for it, and names
-- savepoints that are open
pub record Suits (script : List ℕ) (catalog : List TableDef) (standing : Standing) (bound : Bound) : Type 0 where
  pub was : WasBound script catalog bound
  pub fits : FitsStatement (catalog_shapes catalog) bound
  pub stands : MayStand standing.read_only bound
  pub opened : IsTrue (is_opened standing.savepoints bound)
  pub room : standing.statements < MOST_STATEMENTS
