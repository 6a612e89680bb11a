-- A change of a column of WHERE that doesn't hit a record without it.
use Rattle.std.proofs.Common.{◌≡◌, zero, suc, [], ◌∷◌, Some, None, refl}
use Rattle.hy_bound.specs.declared.Items.TheVariants.{Count}
use Rattle.hy_bound.specs.Changes.{Miss}
use Rattle.hy_bound.specs.Projection.{masked}
use Rattle.hy_plan.specs.ColumnSets.{bits_where, columns_where, named_columns}
use Rattle.hy_cases.specs.Examples.{row_of, unkeyed, is_one}
use Rattle.hy_cases.specs.Shown.{AnyColumnsSuffice, ShownColumnsSuffice, without_where, of_what_is_shown}
use Rattle.hy_cases.specs.Unseen.{leaving}
use Rattle.hy_cases.proofs.Unseen.{Counted, unkeyed_fit}

pub columns_fail : AnyColumnsSuffice → ⊥
columns_fail law =
    let same : Some (masked without_where.columns (row_of 1)) ≡ None = law 1 without_where (Some (row_of 1)) (Some (row_of 2)) refl refl refl in absurd cc

leaving_unhit : Miss (of_what_is_shown unkeyed 1 0 is_one Count ∷ []) leaving
unfolding named_columns columns_where bits_where
leaving_unhit zero = refl
leaving_unhit (suc table) = refl

pub replies_fail : ShownColumnsSuffice → ⊥
replies_fail law = let same : Counted 0 1 = law unkeyed 1 0 is_one Count leaving (unkeyed_fit (Some 1) (Some 2)) leaving_unhit in absurd cc
