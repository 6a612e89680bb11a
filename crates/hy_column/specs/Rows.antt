-- Columns as the rows that they make.
use Rattle.std.specs.Prelude.{◌≡◌, ℕ, List, map, refl}
use Rattle.std.specs.List.{range_with_len, AllByRecursion}
use Rattle.std.specs.Coded.{Coded, code_by, coded×, coded_list}
use Rattle.hy_value.specs.declared.Value.{Value}
use Rattle.hy_value.specs.declared.Kind.{Kind}
use Rattle.hy_value.specs.contracts.Value as value
use Rattle.hy_value.specs.contracts.Kind as kind
use Rattle.hy_column.specs.declared.columns.Column.{Column}
use Rattle.hy_column.specs.Columns.{cell, places, kind_of}

-- the types of the columns, and the rows by place
pub record ByPlace : Type 0 where
  pub kinds : List Kind
  pub rows : List (List Value)

-- they are stored as the pair of these
abbrev pub by_place_code : Coded ByPlace
by_place_code =
    code_by (List Kind × List (List Value)) (coded× (coded_list kind.the_row.coded) (coded_list (coded_list value.the_row.coded)))
    (λ b. (b.kinds, b.rows)) (λ p. record { kinds = p.0; rows = p.1 }) (λ _. refl)

-- the row at a place
abbrev pub row_of : List Column → ℕ → List Value
row_of columns place = map (λ column. cell column place) columns

abbrev pub rows_of : ℕ → List Column → List (List Value)
rows_of rows columns = map (row_of columns) (range_with_len 0 rows)

abbrev pub kinds_of : List Column → List Kind
kinds_of columns = map kind_of columns

-- each column has so many places
pub record AreAsMany (rows : ℕ) (columns : List Column) : Type 0 where
  pub each : AllByRecursion (λ column. places column ≡ rows) columns
