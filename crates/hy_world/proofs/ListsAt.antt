-- What stands at an index of a list that is made of others.
use Rattle.std.proofs.Common.{◌≡◌, ℕ, zero, suc, ◌+◌, ◌<◌, List, [], ◌∷◌, ◌++◌}
use Rattle.std.proofs.Common.{Some, length, map, take, drop, get_or, refl, ap, ◌∙◌, arith}
use Rattle.std.specs.Prelude.{slice_get}
use Rattle.std.specs.Option.{option_map}
use Rattle.std.specs.List.{AllZip}

-- where something stands, and only there, the index is below the length
pub got : {A : Type 0} (xs : List A) (n : ℕ) → n < length xs → (x : A) × (slice_get xs n ≡ Some x)
got [] n h = absurd (omega arith)
got (x ∷ xs) zero h = (x, refl)
got (x ∷ xs) (suc n) h = got xs n (omega arith)

pub below : {A : Type 0} (xs : List A) (n : ℕ) (x : A) → slice_get xs n ≡ Some x → n < length xs
below [] n x e = absurd cc
below (y ∷ xs) zero x e = omega arith
below (y ∷ xs) (suc n) x e = let h : n < length xs = below xs n x e in omega arith

-- what stands there is what is read there, at any default
pub got_is : {A : Type 0} (xs : List A) (n : ℕ) (d x : A) → slice_get xs n ≡ Some x → get_or xs n d ≡ x
got_is [] n d x e = absurd cc
got_is (y ∷ xs) zero d x e = cc
got_is (y ∷ xs) (suc n) d x e = got_is xs n d x e

pub read_got : {A : Type 0} (xs : List A) (n : ℕ) (d : A) → n < length xs → slice_get xs n ≡ Some (get_or xs n d)
read_got [] n d h = absurd (omega arith)
read_got (x ∷ xs) zero d h = refl
read_got (x ∷ xs) (suc n) d h = read_got xs n d (omega arith)

-- ---- in a list with more behind it

pub in_front : {A : Type 0} (xs ys : List A) (n : ℕ) → n < length xs → slice_get (xs ++ ys) n ≡ slice_get xs n
in_front [] ys n h = absurd (omega arith)
in_front (x ∷ xs) ys zero h = refl
in_front (x ∷ xs) ys (suc n) h = in_front xs ys n (omega arith)

pub at_end : {A : Type 0} (xs : List A) (y : A) → slice_get (xs ++ y ∷ []) (length xs) ≡ Some y
at_end [] y = refl
at_end (x ∷ xs) y = at_end xs y

-- ---- in a mapped list, and in a part of one

pub got_map : {A B : Type 0} (f : A → B) (xs : List A) (n : ℕ) → slice_get (map f xs) n ≡ option_map f (slice_get xs n)
got_map f [] n = refl
got_map f (x ∷ xs) zero = refl
got_map f (x ∷ xs) (suc n) = got_map f xs n

pub got_take : {A : Type 0} (xs : List A) (m n : ℕ) → n < m → slice_get (take m xs) n ≡ slice_get xs n
got_take xs zero n h = absurd (omega arith)
got_take [] (suc m) n h = refl
got_take (x ∷ xs) (suc m) zero h = refl
got_take (x ∷ xs) (suc m) (suc n) h = got_take xs m n (omega arith)

pub got_drop : {A : Type 0} (xs : List A) (m n : ℕ) → slice_get (drop m xs) n ≡ slice_get xs (m + n)
got_drop xs zero n = let e : n ≡ zero + n = omega arith in ap (slice_get xs) e
got_drop [] (suc m) n = refl
got_drop (x ∷ xs) (suc m) n =
    let e : suc (m + n) ≡ suc m + n = omega arith in got_drop xs m n ∙ ap (slice_get (x ∷ xs)) e

-- ---- in two lists of which each has its own at an index

pub as_long : {A B : Type 0} (R : A → B → Type 0) (xs : List A) (ys : List B) → AllZip R xs ys → length xs ≡ length ys
as_long R [] [] h = refl
as_long R [] (y ∷ ys) h = absurd h
as_long R (x ∷ xs) [] h = absurd h
as_long R (x ∷ xs) (y ∷ ys) h = ap suc (as_long R xs ys h.1)

pub both_at : {A B : Type 0} (R : A → B → Type 0) (xs : List A) (ys : List B) (n : ℕ) (d : A) (e : B) → AllZip R xs ys → n < length xs
    → R (get_or xs n d) (get_or ys n e)
both_at R [] ys n d e h below = absurd (omega arith)
both_at R (x ∷ xs) [] n d e h below = absurd h
both_at R (x ∷ xs) (y ∷ ys) zero d e h below = h.0
both_at R (x ∷ xs) (y ∷ ys) (suc n) d e h below = both_at R xs ys n d e h.1 (omega arith)
