-- A look-up by a key that no row has, a condition of column 32 that is lost, a row with the key that the record passes by.
use Rattle.std.proofs.Common.{◌≡◌, ℕ, [], ◌∷◌, List, Some, refl, ap, arith, length}
use Rattle.std.specs.Prelude.{true, false}
use Rattle.hy_bound.specs.declared.Items.TheVariants.{Columns}
use Rattle.hy_bound.specs.Condition.{True}
use Rattle.hy_plan.specs.declared.Read.{Read}
use Rattle.hy_plan.specs.ColumnSets.{bits_where, columns_where, named_columns}
use Rattle.hy_cases.specs.Examples.{row_of}
use Rattle.hy_cases.specs.Readings.{AnyKeysSuffice, ManyColumnsAreReadAgain, AnotherKeySuffices}
use Rattle.hy_cases.specs.Readings.{three_tables, on_third, three_rows, wide_and_keyed, on_key, last_is_one, wide_rows}
use Rattle.hy_cases.proofs.Plans.{Told}

pub any_keys_fail : AnyKeysSuffice → ⊥
unfolding named_columns columns_where bits_where
any_keys_fail law =
    let same : Told (row_of 1 ∷ []) [] = law three_tables (0 ∷ 1 ∷ 2 ∷ []) on_third True (Columns (0 ∷ [])) three_rows
    ((omega arith, (refl, tt)), ((omega arith, (refl, tt)), ((omega arith, (refl, tt)), tt))) in absurd cc

-- under how many conditions the second table is read
abbrev second_conditions : List Read → ℕ
second_conditions (first ∷ second ∷ reads) = length second.conditions
second_conditions other = 0

pub many_columns_fail : ManyColumnsAreReadAgain → ⊥
unfolding named_columns columns_where bits_where
many_columns_fail law =
    let same : ◌≡◌ {A = ℕ} 0 1 = ap second_conditions
    (law wide_and_keyed (0 ∷ 1 ∷ []) on_key last_is_one (Columns (0 ∷ [])) wide_rows ((refl, tt), ((refl, tt), tt))) in absurd cc

pub another_key_fails : AnotherKeySuffices → ⊥
another_key_fails law =
    let same : false ≡ true = law (record { width = 1; key = Some 0 }) 0 0 (row_of 1) (row_of 2) [] (row_of 1 ∷ []) refl in absurd cc
