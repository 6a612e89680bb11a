-- SQL's three-valued logic.
use Rattle.std.specs.Prelude.{ℕ, suc, List, [], ◌∷◌, Bool, true, false, not, ◌||◌, ◌&&◌, Option, None, Some, slice_index_or}
use Rattle.std.specs.Ordering.{is_eq}
use Rattle.hy_value.specs.declared.Value.{Value}
use Rattle.hy_value.specs.declared.Value.TheVariants.{Null, Int, Text}
use Rattle.hy_value.specs.declared.Cmp.{Cmp}
use Rattle.hy_value.specs.declared.ColMask.{ColMask}
use Rattle.hy_value.specs.Order.{value_cmp, holds_at}
use Rattle.hy_value.specs.Columns.{has_column}
use Rattle.hy_bound.specs.declared.predicate.Side.{Side}
use Rattle.hy_bound.specs.declared.predicate.Side.TheVariants.{Column, Literal}
use Rattle.hy_bound.specs.Condition.{Condition, True, Compare, IsNull, Not, And, Or}

-- a row's value in a column
abbrev pub column_of : List Value → ℕ → Value
column_of row column = slice_index_or row column Null

-- what a comparison says of two values: nothing where one of them is NULL
abbrev pub compared : Cmp → Value → Value → Option Bool
compared op Null right = None
compared op (Int left) Null = None
compared op (Int left) (Int right) = Some (holds_at op (value_cmp (Int left) (Int right)))
compared op (Int left) (Text right) = Some (holds_at op (value_cmp (Int left) (Text right)))
compared op (Text left) Null = None
compared op (Text left) (Int right) = Some (holds_at op (value_cmp (Text left) (Int right)))
compared op (Text left) (Text right) = Some (holds_at op (value_cmp (Text left) (Text right)))

-- what the right side of a comparison is in a row
abbrev pub side_of : Side → List Value → Value
side_of (Column column) row = column_of row column
side_of (Literal value) row = value

-- whether a value is NULL
abbrev pub is_null_value : Value → Bool
is_null_value Null = true
is_null_value (Int n) = false
is_null_value (Text t) = false

-- NOT: of what is unknown it is unknown
abbrev pub opposite_of : Option Bool → Option Bool
opposite_of None = None
opposite_of (Some b) = Some (not b)

-- AND: false where a side is false, else unknown where a side is unknown
abbrev pub both_of : Option Bool → Option Bool → Option Bool
both_of (Some false) right = Some false
both_of (Some true) right = right
both_of None None = None
both_of None (Some false) = Some false
both_of None (Some true) = None

-- OR: true where a side is true, else unknown where a side is unknown
abbrev pub either_of : Option Bool → Option Bool → Option Bool
either_of (Some true) right = Some true
either_of (Some false) right = right
either_of None None = None
either_of None (Some false) = None
either_of None (Some true) = Some true

-- the three-valued sense of a condition in a row: true, false, or unknown (None)
abbrev pub sense_of : Condition → List Value → Option Bool
sense_of True row = Some true
sense_of (Compare column op side) row = compared op (column_of row column) (side_of side row)
sense_of (IsNull column) row = Some (is_null_value (column_of row column))
sense_of (Not c) row = opposite_of (sense_of c row)
sense_of (And c d) row = both_of (sense_of c row) (sense_of d row)
sense_of (Or c d) row = either_of (sense_of c row) (sense_of d row)

-- only what is true counts
abbrev pub is_known : Option Bool → Bool
is_known None = false
is_known (Some b) = b

-- whether a condition is true of a row
abbrev pub truth_of : Condition → List Value → Bool
truth_of c row = is_known (sense_of c row)

-- it is true of no absent row
abbrev pub truth_at : Condition → Option (List Value) → Bool
truth_at c None = false
truth_at c (Some row) = truth_of c row

-- whether two rows differ on a column of the set, the first of them being the column of this number
abbrev pub differ_from : ColMask → ℕ → List Value → List Value → Bool
differ_from mask column [] others = false
differ_from mask column (x ∷ xs) [] = false
differ_from mask column (x ∷ xs) (y ∷ ys) = (has_column mask column && not (is_eq (value_cmp x y))) || differ_from mask (suc column) xs ys

-- whether a row that is there or not changes on a column of the set
abbrev pub changes_on : ColMask → Option (List Value) → Option (List Value) → Bool
changes_on mask None after = true
changes_on mask (Some before) None = true
changes_on mask (Some before) (Some after) = differ_from mask 0 before after
