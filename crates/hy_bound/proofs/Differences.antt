-- Where two rows differ, column by column.
use Rattle.std.proofs.Common.{◌≡◌, ℕ, ◌+◌, ◌<◌, ◌≤◌, Bool, true, false, List, [], ◌∷◌, length, drop, get_or, suc, zero, add-one, refl, ap, ◌∙◌, arith}
use Rattle.std.specs.Prelude.{not, ◌&&◌, ◌||◌}
use Rattle.std.specs.Ordering.{is_eq}
use Rattle.std.proofs.Math.Seq.{drop-cons}
use Rattle.hy_value.specs.declared.Value.{Value}
use Rattle.hy_value.specs.declared.Value.TheVariants.{Null}
use Rattle.hy_value.specs.declared.ColMask.{ColMask}
use Rattle.hy_value.specs.Order.{value_cmp}
use Rattle.hy_value.specs.Columns.{has_column}
use Rattle.hy_bound.specs.Predicate.{differ_from}

abbrev differs_at : ColMask → ℕ → Value → Value → Bool
differs_at mask i x y = has_column mask i && not (is_eq (value_cmp x y))

-- two rows that both go on differ in this column, or behind it
step : (mask : ColMask) (xs ys : List Value) (i : ℕ) → i < length xs → i < length ys
    → differ_from mask i (drop i xs) (drop i ys) ≡ (differs_at mask i (get_or xs i Null) (get_or ys i Null) || differ_from mask (suc i) (drop (suc i) xs) (drop (suc i) ys))
step mask xs ys i p q = ap (λ zs. differ_from mask i zs (drop i ys)) (drop-cons xs i Null p)
    ∙ ap (differ_from mask i (get_or xs i Null ∷ drop (suc i) xs)) (drop-cons ys i Null q)

-- a column in which they differ
pub differ_here : (mask : ColMask) (xs ys : List Value) (i : ℕ) (x y : Value) (b : Bool) → i < length xs → i < length ys → x ≡ get_or xs i Null → y ≡ get_or ys i Null
    → b ≡ differs_at mask i x y → b ≡ true → differ_from mask i (drop i xs) (drop i ys) ≡ true
differ_here mask xs ys i x y b p q e f g h = step mask xs ys i p q ∙ rw (← e, ← f, ← g, h) refl

-- a column in which they do not
pub differ_later : (mask : ColMask) (xs ys : List Value) (i : ℕ) (x y : Value) (b : Bool) → i < length xs → i < length ys → x ≡ get_or xs i Null → y ≡ get_or ys i Null
    → b ≡ differs_at mask i x y → b ≡ false → differ_from mask i (drop i xs) (drop i ys) ≡ differ_from mask (i + 1) (drop (i + 1) xs) (drop (i + 1) ys)
differ_later mask xs ys i x y b p q e f g h = rw add-one (step mask xs ys i p q ∙ rw (← e, ← f, ← g, h) refl)

-- behind the last column of either nothing differs
pub differ_ended : (mask : ColMask) (m : ℕ) (xs ys : List Value) (i : ℕ) → length ys ≤ i → differ_from mask m (drop i xs) (drop i ys) ≡ false
differ_ended mask m xs ys i h = no_other mask m (drop i xs) (drop i ys) (drop_nothing ys i h)
  where
    drop_nothing : (ys : List Value) (i : ℕ) → length ys ≤ i → drop i ys ≡ []
    drop_nothing [] zero h = refl
    drop_nothing [] (suc i) h = refl
    drop_nothing (y ∷ ys) zero h = absurd (omega arith)
    drop_nothing (y ∷ ys) (suc i) h = drop_nothing ys i (omega arith)

    no_other : (mask : ColMask) (m : ℕ) (xs ys : List Value) → ys ≡ [] → differ_from mask m xs ys ≡ false
    no_other mask m [] [] e = refl
    no_other mask m (x ∷ xs) [] e = refl
    no_other mask m xs (y ∷ ys) e = cc

pub differ_over : (mask : ColMask) (m : ℕ) (xs ys : List Value) (i : ℕ) → length xs ≤ i → differ_from mask m (drop i xs) (drop i ys) ≡ false
differ_over mask m [] ys zero h = refl
differ_over mask m [] ys (suc i) h = refl
differ_over mask m (x ∷ xs) ys zero h = absurd (omega arith)
differ_over mask m (x ∷ xs) [] (suc i) h = nothing mask m (drop i xs)
  where
    nothing : (mask : ColMask) (m : ℕ) (xs : List Value) → differ_from mask m xs [] ≡ false
    nothing mask m [] = refl
    nothing mask m (x ∷ xs) = refl
differ_over mask m (x ∷ xs) (y ∷ ys) (suc i) h = differ_over mask m xs ys i (omega arith)
