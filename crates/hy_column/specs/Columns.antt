-- A column's values by place.
use Rattle.std.specs.Prelude.{ℕ, pos, [], None, Some, length, replicate, slice_index_or, slice_set}
use Rattle.hy_value.specs.declared.Value.{Value}
use Rattle.hy_value.specs.declared.Value.TheVariants as value
use Rattle.hy_value.specs.declared.Kind.{Kind}
use Rattle.hy_value.specs.declared.Kind.TheVariants as kind
use Rattle.hy_column.specs.Cells.{number_value, text_value}
use Rattle.hy_column.specs.declared.columns.Column.{Column}
use Rattle.hy_column.specs.declared.columns.Column.TheVariants as column

-- the value of a column at a place
abbrev pub cell : Column → ℕ → Value
cell (column.Int numbers) place = number_value (slice_index_or numbers place None)
cell (column.Text texts) place = text_value (slice_index_or texts place None)

-- how many places a column has
abbrev pub places : Column → ℕ
places (column.Int numbers) = length numbers
places (column.Text texts) = length texts

abbrev pub kind_of : Column → Kind
kind_of (column.Int numbers) = kind.Int
kind_of (column.Text texts) = kind.Str

abbrev pub first_cells : Kind → ℕ → Column
first_cells kind.Int rows = column.Int (replicate rows (Some (pos 0)))
first_cells kind.Str rows = column.Text (replicate rows (Some []))

-- a column with another value at a place
abbrev pub with_cell : Column → ℕ → Value → Column
with_cell (column.Int numbers) place value.Null = column.Int (slice_set numbers place None)
with_cell (column.Int numbers) place (value.Int number) = column.Int (slice_set numbers place (Some number))
with_cell (column.Int numbers) place (value.Text text) = column.Int numbers
with_cell (column.Text texts) place value.Null = column.Text (slice_set texts place None)
with_cell (column.Text texts) place (value.Int number) = column.Text texts
with_cell (column.Text texts) place (value.Text text) = column.Text (slice_set texts place (Some text))
