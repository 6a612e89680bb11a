-- An operator between two sides gives the number that it gives between the numbers of those sides.
use Rattle.std.specs.Prelude.{◌≡◌, List, Result, Ok, Err, refl}
use Rattle.hy_value.specs.declared.Value.{Value}
use Rattle.hy_value.specs.declared.Value.TheVariants.{Null, Int, Text}
use Rattle.hy_bound.specs.declared.Range.{Range}
use Rattle.hy_bound.specs.declared.expression.Operator.{Operator}
use Rattle.hy_bound.specs.declared.expression.Operator.TheVariants as operator
use Rattle.hy_bound.specs.Expression.{Expression}
use Rattle.hy_bound.specs.ExprView.{operation}
use Rattle.hy_bound.specs.Assignment.{value_of, combined, combined_numbers, number_in}

of_sides : (op : Operator) (left right : Result Value Range) → combined_numbers op (number_in left) (number_in right) ≡ number_in (combined op left right)
of_sides op (Err range) right = refl
of_sides op (Ok Null) (Err range) = refl
of_sides op (Ok Null) (Ok Null) = refl
of_sides op (Ok Null) (Ok (Int n)) = refl
of_sides op (Ok Null) (Ok (Text t)) = refl
of_sides op (Ok (Int m)) (Err range) = refl
of_sides op (Ok (Int m)) (Ok Null) = refl
of_sides op (Ok (Int m)) (Ok (Int n)) = refl
of_sides op (Ok (Int m)) (Ok (Text t)) = refl
of_sides op (Ok (Text s)) (Err range) = refl
of_sides op (Ok (Text s)) (Ok Null) = refl
of_sides op (Ok (Text s)) (Ok (Int n)) = refl
of_sides op (Ok (Text s)) (Ok (Text t)) = refl

pub number_of_operation : (op : Operator) (left right : Expression) (row : List Value)
    → combined_numbers op (number_in (value_of left row)) (number_in (value_of right row)) ≡ number_in (value_of (operation op left right) row)
number_of_operation operator.Add left right row = of_sides operator.Add (value_of left row) (value_of right row)
number_of_operation operator.Sub left right row = of_sides operator.Sub (value_of left row) (value_of right row)
number_of_operation operator.Mul left right row = of_sides operator.Mul (value_of left row) (value_of right row)
