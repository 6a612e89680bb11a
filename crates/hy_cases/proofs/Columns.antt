-- A named column on which rows differ, a right side of SET that reads one, and column 32.
use Rattle.std.proofs.Common.{◌≡◌, [], ◌∷◌, None, Some, Ok, refl, arith}
use Rattle.std.specs.Prelude.{Bool, true, false}
use Rattle.hy_value.specs.declared.Value.TheVariants.{Null}
use Rattle.hy_bound.specs.Condition.{True}
use Rattle.hy_plan.specs.ColumnSets.{bits_where, columns_where, named_columns}
use Rattle.hy_cases.specs.Columns.{AllButOneSuffice, WhereColumnsSuffice, AnyColumnIsTaken, are_equal, adding_one}
use Rattle.hy_cases.specs.Examples.{number, row_of}

-- what a condition says of a row and of another
abbrev Said : Bool → Bool → Type 0
Said one other = Some one ≡ Some other

pub all_but_one_fail : AllButOneSuffice → ⊥
all_but_one_fail law =
    let same : Said true false = law are_equal 1 (number 1 ∷ number 1 ∷ []) (number 1 ∷ number 2 ∷ []) (refl, tt) in absurd cc

pub where_columns_fail : WhereColumnsSuffice → ⊥
unfolding named_columns columns_where bits_where
where_columns_fail law =
    let same : Ok Null ≡ Ok (number 2) = (law (record { width = 1; key = None }) 0 adding_one True (row_of 1) (omega arith, (refl, tt))).0 in absurd cc

pub any_column_fails : AnyColumnIsTaken → ⊥
any_column_fails law = let same : false ≡ true = law 0 33 (32 ∷ []) 32 in absurd cc
