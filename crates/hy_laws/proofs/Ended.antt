-- Small tables of which the neighbours of the laws don't hold.
use Rattle.std.proofs.Common.{◌≡◌, List, [], ◌∷◌, ◌++◌, None, Some, refl, arith}
use Rattle.std.specs.Prelude.{pos}
use Rattle.std.proofs.lemmas.Option.{same_Some}
use Rattle.hy_value.specs.declared.Value.{Value}
use Rattle.hy_value.specs.declared.Value.TheVariants.{Null}
use Rattle.hy_bound.specs.declared.Items.TheVariants.{Count}
use Rattle.hy_bound.specs.declared.Reply.TheVariants as reply
use Rattle.hy_bound.specs.declared.Shape.{Shape}
use Rattle.hy_bound.specs.Condition.{True}
use Rattle.hy_bound.specs.Agreement.{FitTables, HasItsKey, HaveTheirKeys}
use Rattle.hy_meaning.specs.Statement.{Table}
use Rattle.hy_plan.specs.ColumnSets.{bits_where, columns_where, named_columns}
use Rattle.hy_laws.specs.LookupEnds.{NothingIsLeftOut, AnyKeysSuffice, AnyRowsSuffice, shape_with, row_of, equal_to}

-- two tables, of which the second has a key
abbrev joined_by_key : List Shape
joined_by_key = shape_with None ∷ shape_with (Some 0) ∷ []

-- the first has 1, the second 1 and 2
abbrev one_of_two : List Table
one_of_two = (row_of 1 ∷ []) ∷ (row_of 1 ∷ row_of 2 ∷ []) ∷ []

no_key : HasItsKey (shape_with None)
no_key key e = absurd cc

first_key : HasItsKey (shape_with (Some 0))
first_key key e = let same : 0 ≡ key = same_Some 0 key e in omega (arith, same)

-- 2 is not looked up
pub rows_are_left_out : NothingIsLeftOut → ⊥
unfolding named_columns columns_where bits_where
rows_are_left_out law =
    let fits : FitTables joined_by_key (0 ∷ 1 ∷ []) one_of_two = ((omega arith, (refl, tt)), ((omega arith, (refl, (refl, tt))), tt)) in
    let keys : HaveTheirKeys joined_by_key (0 ∷ 1 ∷ []) = (no_key, (first_key, tt)) in
    let same : ((row_of 1 ∷ []) ∷ (row_of 1 ∷ []) ∷ []) ≡ ((row_of 1 ∷ []) ∷ (row_of 1 ∷ row_of 2 ∷ []) ∷ []) =
    law joined_by_key (0 ∷ 1 ∷ []) (equal_to 1 ∷ []) True Count one_of_two fits keys in absurd cc

-- three tables of one column, of which the second has its second column as a key
abbrev without_that_column : List Shape
without_that_column = shape_with None ∷ shape_with (Some 1) ∷ shape_with None ∷ []

-- each has 1
abbrev one_each : List Table
one_each = (row_of 1 ∷ []) ∷ (row_of 1 ∷ []) ∷ (row_of 1 ∷ []) ∷ []

-- ON speaks of the third table, and the second is looked up
pub keys_outside_fail : AnyKeysSuffice → ⊥
unfolding named_columns columns_where bits_where
keys_outside_fail law =
    let fits : FitTables without_that_column (0 ∷ 1 ∷ 2 ∷ []) one_each =
    ((omega arith, (refl, tt)), ((omega arith, (refl, tt)), ((omega arith, (refl, tt)), tt))) in
    let same : reply.Value (pos 0) ≡ reply.Value (pos 1) =
    law without_that_column (0 ∷ 1 ∷ 2 ∷ []) (equal_to 2 ∷ equal_to 2 ∷ []) True Count one_each fits in absurd cc

-- a row of two values in a table of one column
pub wider_rows_fail : AnyRowsSuffice → ⊥
unfolding named_columns columns_where bits_where
wider_rows_fail law =
    let wide : List Value = row_of 1 ++ row_of 2 in
    let same : ((Null ∷ []) ∷ []) ∷ [] ≡ ((Null ∷ Null ∷ []) ∷ []) ∷ [] =
    law (shape_with None ∷ []) (0 ∷ []) [] True Count ((wide ∷ []) ∷ []) in absurd cc
