-- Two lists, item by item.
use Rattle.std.specs.List.{AllZip}
use Rattle.std.proofs.Common.{ℕ, zero, suc, ◌<◌, List, [], ◌∷◌, ◌++◌, length, map, get_or, set, arith}

-- one item more
pub zip_push : {A B : Type 0} (R : A → B → Type 0) (xs : List A) (ys : List B) (x : A) (y : B) → AllZip R xs ys → R x y → AllZip R (xs ++ x ∷ []) (ys ++ y ∷ [])
zip_push R [] [] x y h r = (r, tt)
zip_push R [] (b ∷ ys) x y h r = absurd h
zip_push R (a ∷ xs) [] x y h r = absurd h
zip_push R (a ∷ xs) (b ∷ ys) x y h r = (h.0, zip_push R xs ys x y h.1 r)

-- one item
pub zip_at : {A B : Type 0} (R : A → B → Type 0) (xs : List A) (ys : List B) (n : ℕ) (d : A) (e : B) → AllZip R xs ys → n < length xs → R (get_or xs n d) (get_or ys n e)
zip_at R [] ys n d e h within = absurd (omega (arith, within))
zip_at R (a ∷ xs) [] n d e h within = absurd h
zip_at R (a ∷ xs) (b ∷ ys) zero d e h within = h.0
zip_at R (a ∷ xs) (b ∷ ys) (suc n) d e h within = zip_at R xs ys n d e h.1 (omega (arith, within))

-- one item written
pub zip_set : {A B : Type 0} (R : A → B → Type 0) (xs : List A) (ys : List B) (n : ℕ) (d : A) (y : B) → AllZip R xs ys → R (get_or xs n d) y → AllZip R xs (set ys n y)
zip_set R [] [] n d y h r = tt
zip_set R [] (b ∷ ys) n d y h r = absurd h
zip_set R (a ∷ xs) [] n d y h r = absurd h
zip_set R (a ∷ xs) (b ∷ ys) zero d y h r = (r, h.1)
zip_set R (a ∷ xs) (b ∷ ys) (suc n) d y h r = (h.0, zip_set R xs ys n d y h.1 r)

-- the second list's pictures
pub zip_map : {A B C : Type 0} (R : A → C → Type 0) (f : B → C) (xs : List A) (ys : List B) → AllZip (λ x y. R x (f y)) xs ys → AllZip R xs (map f ys)
zip_map R f [] [] h = tt
zip_map R f [] (b ∷ ys) h = absurd h
zip_map R f (a ∷ xs) [] h = absurd h
zip_map R f (a ∷ xs) (b ∷ ys) h = (h.0, zip_map R f xs ys h.1)

-- what follows at each item
pub zip_weaker : {A B : Type 0} (R S : A → B → Type 0) (xs : List A) (ys : List B) → ((x : A) (y : B) → R x y → S x y) → AllZip R xs ys → AllZip S xs ys
zip_weaker R S [] [] f h = tt
zip_weaker R S [] (b ∷ ys) f h = absurd h
zip_weaker R S (a ∷ xs) [] f h = absurd h
zip_weaker R S (a ∷ xs) (b ∷ ys) f h = (f a b h.0, zip_weaker R S xs ys f h.1)
