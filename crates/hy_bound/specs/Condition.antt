-- Conditions on rows.
use Rattle.std.specs.Prelude.{◌≡◌, ◌⊎◌, ℕ, suc, zero, ◌+◌, List, [], ◌∷◌, refl}
use Rattle.std.specs.Coded.{Coded, code_by, coded×, coded⊎, coded_ℕ, coded_list}
use Rattle.std.proofs.Common.{inl, inr, ap, ◌∙◌}
use Rattle.hy_value.specs.declared.Cmp.{Cmp}
use Rattle.hy_value.specs.contracts.Cmp as cmp
use Rattle.hy_bound.specs.declared.predicate.Side.{Side}
use Rattle.hy_bound.specs.contracts.predicate.Side as side

-- a condition on a row: nothing, a comparison of a column, IS NULL, NOT, AND, OR
pub data Condition : Type 0 where
  True : Condition
  Compare : (column : ℕ) (op : Cmp) (side : Side) → Condition
  IsNull : (column : ℕ) → Condition
  Not : (inner : Condition) → Condition
  And : (left : Condition) (right : Condition) → Condition
  Or : (left : Condition) (right : Condition) → Condition

-- how many parts it is made of
abbrev pub parts : Condition → ℕ
parts True = 1
parts (Compare column op side) = 1
parts (IsNull column) = 1
parts (Not c) = parts c + 1
parts (And c d) = parts c + parts d + 1
parts (Or c d) = parts c + parts d + 1

-- A condition is stored as the list of its parts, those of its sides before its own: a comparison, or the
-- number of another kind and a column.
abbrev pub Part : Type 0
Part = (ℕ × (Cmp × Side)) ⊎ (ℕ × ℕ)

abbrev pub stored : Condition → List Part → List Part
stored True rest = inr (zero, zero) ∷ rest
stored (Compare column op side) rest = inl (column, (op, side)) ∷ rest
stored (IsNull column) rest = inr (suc zero, column) ∷ rest
stored (Not c) rest = stored c (inr (suc (suc zero), zero) ∷ rest)
stored (And c d) rest = stored c (stored d (inr (suc (suc (suc zero)), zero) ∷ rest))
stored (Or c d) rest = stored c (stored d (inr (suc (suc (suc (suc zero))), zero) ∷ rest))

-- the conditions so far, the last first, after a part of this kind
abbrev pub after_part : ℕ → ℕ → List Condition → List Condition
after_part zero column made = True ∷ made
after_part (suc zero) column made = IsNull column ∷ made
after_part (suc (suc zero)) column [] = []
after_part (suc (suc zero)) column (c ∷ made) = Not c ∷ made
after_part (suc (suc (suc n))) column [] = []
after_part (suc (suc (suc n))) column (d ∷ []) = []
after_part (suc (suc (suc zero))) column (d ∷ c ∷ made) = And c d ∷ made
after_part (suc (suc (suc (suc n)))) column (d ∷ c ∷ made) = Or c d ∷ made

abbrev pub made_from : List Part → List Condition → List Condition
made_from [] made = made
made_from (inl (column, (op, side)) ∷ rest) made = made_from rest (Compare column op side ∷ made)
made_from (inr (kind, column) ∷ rest) made = made_from rest (after_part kind column made)

abbrev pub top : List Condition → Condition
top [] = True
top (c ∷ made) = c

pub made-stored : (c : Condition) (rest : List Part) (made : List Condition) → made_from (stored c rest) made ≡ made_from rest (c ∷ made)
made-stored True rest made = refl
made-stored (Compare column op side) rest made = refl
made-stored (IsNull column) rest made = refl
made-stored (Not c) rest made = made-stored c _ made
made-stored (And c d) rest made = made-stored c _ made ∙ made-stored d _ (c ∷ made)
made-stored (Or c d) rest made = made-stored c _ made ∙ made-stored d _ (c ∷ made)

abbrev pub condition_code : Coded Condition
condition_code =
    code_by (List Part) (coded_list (coded⊎ (coded× coded_ℕ (coded× cmp.the_row.coded side.the_row.coded)) (coded× coded_ℕ coded_ℕ)))
    (λ c. stored c []) (λ parts. top (made_from parts [])) (λ c. ap top (made-stored c [] []))
