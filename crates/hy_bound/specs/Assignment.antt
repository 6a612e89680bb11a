-- What UPDATE sets.
use Rattle.std.specs.Prelude.{ℕ, ◌^◌, List, [], ◌∷◌, Bool, Option, None, Some, Result, Ok, Err, ℤ, pos, negsuc, ◌+ℤ◌, ◌-ℤ◌, ◌*ℤ◌, nat_lt, if◌then◌else◌, slice_set}
use Rattle.hy_value.specs.declared.Value.{Value}
use Rattle.hy_value.specs.declared.Value.TheVariants.{Null, Int, Text}
use Rattle.hy_bound.specs.declared.Assign.{Assign}
use Rattle.hy_bound.specs.declared.Range.{Range}
use Rattle.hy_bound.specs.declared.expression.Operator.{Operator}
use Rattle.hy_bound.specs.declared.expression.Operator.TheVariants as operator
use Rattle.hy_bound.specs.Expression.{Expression, Literal, Column, Add, Sub, Mul}
use Rattle.hy_bound.specs.Predicate.{column_of}

-- the exact result of an operator
abbrev pub exact : Operator → ℤ → ℤ → ℤ
exact operator.Add m n = m +ℤ n
exact operator.Sub m n = m -ℤ n
exact operator.Mul m n = m *ℤ n

-- whether a number fits in 64 bits, one of which is its sign
abbrev pub has_64_bits : ℤ → Bool
has_64_bits (pos n) = nat_lt n (2 ^ 63)
has_64_bits (negsuc n) = nat_lt n (2 ^ 63)

-- a number as a value
abbrev pub number_of : ℤ → Result Value Range
number_of z = if has_64_bits z then Ok (Int z) else Err (record {})

-- an operator on two values: NULL where one is NULL. None is a text where names and types are resolved; of
-- a text it gives NULL too
abbrev pub applied : Operator → Value → Value → Result Value Range
applied op (Int m) (Int n) = number_of (exact op m n)
applied op (Int m) Null = Ok Null
applied op (Int m) (Text t) = Ok Null
applied op Null right = Ok Null
applied op (Text s) right = Ok Null

-- an operator on two sides: out of range where a side is
abbrev pub combined : Operator → Result Value Range → Result Value Range → Result Value Range
combined op (Err range) right = Err range
combined op (Ok left) (Err range) = Err range
combined op (Ok left) (Ok right) = applied op left right

-- the number that a value is, if it is one
abbrev pub number_in : Result Value Range → Result (Option ℤ) Range
number_in (Err range) = Err range
number_in (Ok Null) = Ok None
number_in (Ok (Int n)) = Ok (Some n)
number_in (Ok (Text t)) = Ok None

-- an operator on two sides of which only the numbers are known
abbrev pub combined_numbers : Operator → Result (Option ℤ) Range → Result (Option ℤ) Range → Result (Option ℤ) Range
combined_numbers op (Err range) right = Err range
combined_numbers op (Ok left) (Err range) = Err range
combined_numbers op (Ok None) (Ok right) = Ok None
combined_numbers op (Ok (Some m)) (Ok None) = Ok None
combined_numbers op (Ok (Some m)) (Ok (Some n)) = number_in (number_of (exact op m n))

-- what a right side of SET is in a row
abbrev pub value_of : Expression → List Value → Result Value Range
value_of (Literal value) row = Ok value
value_of (Column column) row = Ok (column_of row column)
value_of (Add e f) row = combined operator.Add (value_of e row) (value_of f row)
value_of (Sub e f) row = combined operator.Sub (value_of e row) (value_of f row)
value_of (Mul e f) row = combined operator.Mul (value_of e row) (value_of f row)

-- a row with one more column set, unless the value is out of range
abbrev pub set_column : List Value → ℕ → Result Value Range → Option (List Value)
set_column row column (Ok value) = Some (slice_set row column value)
set_column row column (Err range) = None

-- a row after the assignments that are left, each right side reading the row as it was
abbrev pub assigned_to : List Assign → List Value → Option (List Value) → Option (List Value)
assigned_to sets old None = None
assigned_to [] old (Some new) = Some new
assigned_to (set ∷ sets) old (Some new) = assigned_to sets old (set_column new set.column (value_of set.value old))

-- a row after SET, or none where a value is out of range
abbrev pub assigned : List Assign → List Value → Option (List Value)
assigned sets row = assigned_to sets row (Some row)
