-- The first of the conditions that AND joins, and what its being false says of the whole.
use Rattle.std.proofs.Common.{◌≡◌, refl, List, [], ◌∷◌, ◌++◌, ap, ◌∙◌, sym}
use Rattle.std.specs.Prelude.{Bool, false, ◌&&◌, Option, None, Some, slice_index_or}
use Rattle.std.specs.List.{list_all}
use Rattle.hy_value.specs.declared.Value.{Value}
use Rattle.hy_bound.specs.Condition.{Condition, True, Compare, IsNull, Not, And, Or}
use Rattle.hy_bound.specs.Predicate.{truth_of, truth_at}
use Rattle.hy_bound.specs.Records.{conjuncts}
use Rattle.hy_bound.specs.Truths.{conjuncts_truth}
use Rattle.hy_validate.specs.FirstConditions.{first_condition_of}

-- of two lists none has a condition if their first is none
neither : (xs ys : List Condition) → (slice_index_or xs 0 True ≡ True → xs ≡ []) → (slice_index_or ys 0 True ≡ True → ys ≡ [])
    → slice_index_or (xs ++ ys) 0 True ≡ True → xs ++ ys ≡ []
neither [] ys f g h = g h
neither (x ∷ xs) ys f g h = let e : (x ∷ xs) ≡ [] = f h in cc

-- what has no first condition has none at all
pub no_conditions : (c : Condition) → first_condition_of c ≡ True → conjuncts c ≡ []
no_conditions True h = refl
no_conditions (Compare column op side) h = cc
no_conditions (IsNull column) h = cc
no_conditions (Not c) h = cc
no_conditions (And c d) h = neither (conjuncts c) (conjuncts d) (no_conditions c) (no_conditions d) h
no_conditions (Or c d) h = cc

-- so the first of what AND joins is that of the right side
pub first_of_right : (c d : Condition) → first_condition_of c ≡ True → first_condition_of d ≡ first_condition_of (And c d)
first_of_right c d h = ap (λ (xs : List Condition). slice_index_or (xs ++ conjuncts d) 0 True) (sym (no_conditions c h))

all_but_first : (row : List Value) (xs : List Condition) → truth_of (slice_index_or xs 0 True) row ≡ false → list_all (λ d. truth_of d row) xs ≡ false
all_but_first row [] h = cc
all_but_first row (x ∷ xs) h = ap (λ (b : Bool). b && list_all (λ d. truth_of d row) xs) h

-- a condition isn't true where the first is not that AND joins in it
pub first_decides : (c : Condition) (row : Option (List Value)) → truth_at (first_condition_of c) row ≡ false → truth_at c row ≡ false
first_decides c None h = refl
first_decides c (Some row) h = sym (conjuncts_truth c row) ∙ all_but_first row (conjuncts c) h
