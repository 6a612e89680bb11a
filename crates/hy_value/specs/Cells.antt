-- What the cells of a row are worth, beside its texts.
use Rattle.std.specs.Prelude.{ℕ, ◌+◌, ◌<◌, List, [], ◌∷◌, map, length, slice_index_or, All}
use Rattle.hy_value.specs.declared.Value.{Value}
use Rattle.hy_value.specs.declared.Value.TheVariants as value
use Rattle.hy_value.specs.declared.cells.Cell.{Cell}
use Rattle.hy_value.specs.declared.cells.Cell.TheVariants.{Null, Int, Text}

-- a text stands beside the cells, and its cell has its number
abbrev pub cell_value : List (List ℕ) → Cell → Value
cell_value texts Null = value.Null
cell_value texts (Int n) = value.Int n
cell_value texts (Text k) = value.Text (slice_index_or texts k [])

-- the values of cells
abbrev pub values_of : List (List ℕ) → List Cell → List Value
values_of texts cells = map (cell_value texts) cells

-- a text's number is that of one of so many
abbrev pub IsWithin : ℕ → Cell → Type 0
IsWithin count Null = Unit {0}
IsWithin count (Int n) = Unit {0}
IsWithin count (Text k) = k < count

-- each text that a cell names is there; texts that no cell names may be left over
abbrev pub Within : List (List ℕ) → List Cell → Type 0
Within texts cells = All (IsWithin (length texts)) cells

-- how many texts a value has, and values have
abbrev pub text_count : Value → ℕ
text_count value.Null = 0
text_count (value.Int n) = 0
text_count (value.Text t) = 1

abbrev pub texts_in : List Value → ℕ
texts_in [] = 0
texts_in (v ∷ vs) = text_count v + texts_in vs
