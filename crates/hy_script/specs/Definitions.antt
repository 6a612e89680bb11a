-- Tables and their first rows, as far as definitions that were taken say them.
use Rattle.std.specs.Prelude.{◌≡◌, ℕ, ◌≤◌, ◌*◌, List, Option, Some, length, map}
use Rattle.std.specs.List.{All, AllZip}
use Rattle.hy_value.specs.declared.Value.{Value}
use Rattle.hy_value.specs.Sorted.{is_one_of}
use Rattle.hy_bound.specs.declared.Shape.{Shape}
use Rattle.hy_bound.specs.Fits.{FitsShape, FitsRows}
use Rattle.hy_bind.specs.Shapes.{catalog_shapes}
use Rattle.hy_script.specs.declared.Options.{Options}
use Rattle.hy_script.specs.declared.sofar.SoFar.{SoFar}
use Rattle.hy_script.specs.declared.stocks.Stock.{Stock}
use Rattle.hy_script.specs.Stocks.{value_in}
use Rattle.hy_limits.specs.declared.TheConstants.{MOST_TABLES}

-- the first rows of a table fit it, and their keys are kept beside them
pub record IsStock (room : ℕ) (shape : Shape) (stock : Stock) : Type 0 where
  pub key : stock.key ≡ shape.key
  pub rows : FitsRows room shape stock.rows
  pub keys : (key : ℕ) → shape.key ≡ Some key → (value : Value) → is_one_of stock.keys value ≡ is_one_of (map (λ row. value_in row key) stock.rows) value

-- tables of these shapes fit, and so do the first rows of each
pub record FitDefinitions (room : ℕ) (shapes : List Shape) (all_stocks : List Stock) : Type 0 where
  pub few : length shapes ≤ MOST_TABLES
  pub tables : All FitsShape shapes
  pub stocks : AllZip (IsStock room) shapes all_stocks

-- the tables and first rows so far fit
abbrev pub AreDefined : Options → SoFar → Type 0
AreDefined options sofar = FitDefinitions (options.chunks * options.rows) (catalog_shapes sofar.catalog) sofar.stocks
