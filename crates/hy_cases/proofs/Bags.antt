-- A count tells rows that are there twice, and an INSERT tells an empty table from none.
use Rattle.std.proofs.Common.{◌≡◌, ℕ, zero, suc, [], ◌∷◌, refl}
use Rattle.std.specs.Prelude.{Bool, true, false, ◌||◌}
use Rattle.std.specs.Ordering.{is_eq}
use Rattle.std.proofs.lemmas.List.Sorted.{IsPermutation-refl, length_permutation}
use Rattle.hy_value.specs.Order.{row_cmp}
use Rattle.hy_laws.specs.Bags.{SameBags}
use Rattle.hy_cases.specs.Bags.{SameSets, SetsSuffice, MissingTablesSuffice, once, twice, inserting_first}
use Rattle.hy_cases.specs.Examples.{row_of, unkeyed, counting}
use Rattle.hy_cases.proofs.Unseen.{Counted}

told_twice : (b : Bool) → (b || false) ≡ (b || (b || false))
told_twice true = refl
told_twice false = refl

same_sets : SameSets once twice
same_sets zero row = told_twice (is_eq (row_cmp row (row_of 1)))
same_sets (suc table) row = refl

pub sets_fail : SetsSuffice → ⊥
sets_fail law = let same : Counted 1 2 = law unkeyed counting once twice same_sets in absurd cc

same_bags : SameBags [] ([] ∷ [])
same_bags zero = IsPermutation-refl []
same_bags (suc table) = IsPermutation-refl []

pub missing_tables_fail : MissingTablesSuffice → ⊥
missing_tables_fail law =
    let bags : SameBags [] ((row_of 1 ∷ []) ∷ []) = law unkeyed inserting_first [] ([] ∷ []) same_bags [] ((row_of 1 ∷ []) ∷ []) refl refl in
    let same : ◌≡◌ {A = ℕ} 1 0 = length_permutation [] (row_of 1 ∷ []) (bags 0) in absurd cc
