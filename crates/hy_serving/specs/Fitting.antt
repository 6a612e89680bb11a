-- What the lines so far have come to fits, so that a run can begin with it.
use Rattle.std.specs.Prelude.{◌≡◌, ℕ, ◌≤◌, List, length}
use Rattle.std.specs.List.{All, AllZip}
use Rattle.hy_value.specs.declared.Value.{Value}
use Rattle.hy_schema.specs.declared.TableDef.{TableDef}
use Rattle.hy_script.specs.declared.Options.{Options}
use Rattle.hy_script.specs.Binding.{WasGiven}
use Rattle.hy_script.specs.Definitions.{AreDefined}
use Rattle.hy_serving.specs.declared.Desk.{Desk}
use Rattle.hy_serving.specs.Saying.{first_rows}
use Rattle.hy_limits.specs.declared.TheConstants.{MOST_SESSIONS}

-- first rows of a table were given by lines
abbrev pub WereHeard : TableDef → List (List Value) → Type 0
WereHeard def rows = All (λ (row : List Value). (line : List ℕ) × WasGiven line def row) rows

-- its tables and first rows fit, and these were given by lines; the sessions are at most as many as may be, and something is known
-- of each
pub record FitsDesk (options : Options) (desk : Desk) : Type 0 where
  pub defined : AreDefined options desk.sofar
  pub rows : AllZip WereHeard desk.sofar.catalog (first_rows desk)
  pub few_sessions : length desk.sofar.names ≤ MOST_SESSIONS
  pub places : length desk.places ≡ length desk.sofar.names
