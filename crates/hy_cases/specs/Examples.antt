-- Small tables, rows and conditions from which counterexamples are made.
use Rattle.std.specs.Prelude.{ℕ, List, [], ◌∷◌, ◌++◌, Option, None, Some, pos, replicate}
use Rattle.hy_value.specs.declared.Cmp.TheVariants.{Eq}
use Rattle.hy_value.specs.declared.Value.{Value}
use Rattle.hy_value.specs.declared.Value.TheVariants.{Null, Int}
use Rattle.hy_bound.specs.declared.predicate.Side.TheVariants.{Literal}
use Rattle.hy_bound.specs.declared.Bound.{Bound}
use Rattle.hy_bound.specs.declared.Bound.TheVariants.{Select}
use Rattle.hy_bound.specs.declared.Items.TheVariants.{Count}
use Rattle.hy_bound.specs.declared.Shape.{Shape}
use Rattle.hy_bound.specs.Changes.{Change}
use Rattle.hy_bound.specs.Condition.{Condition, Compare}

-- a number as a value
abbrev pub number : ℕ → Value
number n = Int (pos n)

-- a row of one number
abbrev pub row_of : ℕ → List Value
row_of n = number n ∷ []

-- one table, of one column, without a key; and the same table with that column as its key
abbrev pub unkeyed : List Shape
unkeyed = record { width = 1; key = None } ∷ []

abbrev pub keyed : List Shape
keyed = record { width = 1; key = Some 0 } ∷ []

-- one table of 33 columns, and a row of it that has NULL in all but the last
abbrev pub wide : List Shape
wide = record { width = 33; key = None } ∷ []

abbrev pub wide_row : ℕ → List Value
wide_row n = replicate 32 Null ++ number n ∷ []

-- how many rows of it have 1 in their last column
abbrev pub counting_last : Bound
counting_last = Select (0 ∷ []) [] (Compare 32 Eq (Literal (number 1))) Count

-- that the first column is 1
abbrev pub is_one : Condition
is_one = Compare 0 Eq (Literal (number 1))

-- how many rows of the table have 1 in their first column
abbrev pub counting : Bound
counting = Select (0 ∷ []) [] is_one Count

-- one change, of the one table
abbrev pub only : Option (List Value) → Option (List Value) → List (List Change)
only before after = ((before, after) ∷ []) ∷ []
