-- The first rows of a table.
use Rattle.std.specs.Prelude.{ℕ, Bool, false, List, [], ◌∷◌, ◌++◌, Option, Some, None, slice_index_or}
use Rattle.hy_value.specs.declared.Value.{Value}
use Rattle.hy_value.specs.declared.Value.TheVariants.{Null}
use Rattle.hy_value.specs.Sorted.{is_one_of, with_value}
use Rattle.hy_script.specs.declared.stocks.Stock.{Stock}

-- a row's value in a column
abbrev pub value_in : List Value → ℕ → Value
value_in row column = slice_index_or row column Null

-- whether a row has the key of a row that came before
abbrev pub key_among : Option ℕ → List Value → List Value → Bool
key_among None keys row = false
key_among (Some key) keys row = is_one_of keys (value_in row key)

abbrev pub key_there : Stock → List Value → Bool
key_there stock row = key_among stock.key stock.keys row

abbrev pub with_key : Option ℕ → List Value → List Value → List Value
with_key None keys row = keys
with_key (Some key) keys row = with_value keys (value_in row key)

-- no rows of a table with this key, or without one
abbrev pub no_rows : Option ℕ → Stock
no_rows key = record { key = key; rows = []; keys = [] }

-- with a row more
abbrev pub with_row : Stock → List Value → Stock
with_row stock row = record { key = stock.key; rows = stock.rows ++ row ∷ []; keys = with_key stock.key stock.keys row }
