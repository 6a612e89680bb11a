-- Lists with one more element at their end.
use Rattle.std.proofs.Common.{◌≡◌, ℕ, zero, suc, ◌<◌, List, [], ◌∷◌, ◌++◌, length, Some, refl, arith}
use Rattle.std.specs.Prelude.{slice_get}

-- the elements before it stay
pub get_before : {A : Type 0} (xs ys : List A) (k : ℕ) → k < length xs → slice_get (xs ++ ys) k ≡ slice_get xs k
get_before [] ys k l = absurd (omega (arith, l))
get_before (x ∷ xs) ys zero l = refl
get_before (x ∷ xs) ys (suc k) l = get_before xs ys k (omega (arith, l))

-- it stands behind them
pub get_behind : {A : Type 0} (xs : List A) (y : A) → slice_get (xs ++ y ∷ []) (length xs) ≡ Some y
get_behind [] y = refl
get_behind (x ∷ xs) y = get_behind xs y
