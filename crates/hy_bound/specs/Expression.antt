-- The right sides of assignments.
use Rattle.std.specs.Prelude.{◌≡◌, ◌⊎◌, ℕ, suc, zero, ◌+◌, List, [], ◌∷◌, refl}
use Rattle.std.specs.Coded.{Coded, code_by, coded×, coded⊎, coded_ℕ, coded_list}
use Rattle.std.proofs.Common.{inl, inr, ap, ◌∙◌}
use Rattle.hy_value.specs.declared.Value.{Value}
use Rattle.hy_value.specs.declared.Value.TheVariants.{Null}
use Rattle.hy_value.specs.contracts.Value as value

-- an expression over a row: a value, a column, a sum, a difference, a product
pub data Expression : Type 0 where
  Literal : (value : Value) → Expression
  Column : (column : ℕ) → Expression
  Add : (left : Expression) (right : Expression) → Expression
  Sub : (left : Expression) (right : Expression) → Expression
  Mul : (left : Expression) (right : Expression) → Expression

-- how many parts it is made of
abbrev pub parts : Expression → ℕ
parts (Literal value) = 1
parts (Column column) = 1
parts (Add e f) = parts e + parts f + 1
parts (Sub e f) = parts e + parts f + 1
parts (Mul e f) = parts e + parts f + 1

-- An expression is stored as the list of its parts, those of its sides before its own: a value, or the
-- number of another kind and a column.
abbrev pub Part : Type 0
Part = Value ⊎ (ℕ × ℕ)

abbrev pub stored : Expression → List Part → List Part
stored (Literal value) rest = inl value ∷ rest
stored (Column column) rest = inr (zero, column) ∷ rest
stored (Add e f) rest = stored e (stored f (inr (suc zero, zero) ∷ rest))
stored (Sub e f) rest = stored e (stored f (inr (suc (suc zero), zero) ∷ rest))
stored (Mul e f) rest = stored e (stored f (inr (suc (suc (suc zero)), zero) ∷ rest))

-- the expressions so far, the last first, after a part of this kind
abbrev pub after_part : ℕ → ℕ → List Expression → List Expression
after_part zero column made = Column column ∷ made
after_part (suc n) column [] = []
after_part (suc n) column (f ∷ []) = []
after_part (suc zero) column (f ∷ e ∷ made) = Add e f ∷ made
after_part (suc (suc zero)) column (f ∷ e ∷ made) = Sub e f ∷ made
after_part (suc (suc (suc n))) column (f ∷ e ∷ made) = Mul e f ∷ made

abbrev pub made_from : List Part → List Expression → List Expression
made_from [] made = made
made_from (inl value ∷ rest) made = made_from rest (Literal value ∷ made)
made_from (inr (kind, column) ∷ rest) made = made_from rest (after_part kind column made)

abbrev pub top : List Expression → Expression
top [] = Literal Null
top (e ∷ made) = e

pub made-stored : (e : Expression) (rest : List Part) (made : List Expression) → made_from (stored e rest) made ≡ made_from rest (e ∷ made)
made-stored (Literal value) rest made = refl
made-stored (Column column) rest made = refl
made-stored (Add e f) rest made = made-stored e _ made ∙ made-stored f _ (e ∷ made)
made-stored (Sub e f) rest made = made-stored e _ made ∙ made-stored f _ (e ∷ made)
made-stored (Mul e f) rest made = made-stored e _ made ∙ made-stored f _ (e ∷ made)

abbrev pub expression_code : Coded Expression
expression_code =
    code_by (List Part) (coded_list (coded⊎ value.the_row.coded (coded× coded_ℕ coded_ℕ)))
    (λ e. stored e []) (λ parts. top (made_from parts [])) (λ e. ap top (made-stored e [] []))
