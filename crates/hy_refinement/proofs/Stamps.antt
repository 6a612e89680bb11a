-- The stamps of a position, and whose they are.
use Rattle.std.proofs.Common.{◌≡◌, ◌⊎◌, ℕ, zero, suc, ◌<◌, ◌≤◌, List, [], ◌∷◌, length, get_or, inl, inr, refl, ap, arith, Contains, Some, None, Bool, cond}
use Rattle.std.specs.List.{AllByRecursion}
use Rattle.std.proofs.lemmas.Bool.{lt-ltb, le-ltb}
use Rattle.hy_stamp.specs.declared.Stamp.{Stamp}
use Rattle.hy_chain.specs.Chains.{Undo, newest}
use Rattle.hy_chain.specs.Pruning.{stamps_of}
use Rattle.hy_undo.specs.Images.{Image}
use Rattle.hy_refinement.specs.Places.{newest_below}

-- ---- members of a list

pub behind : {A : Type 0} (x y : A) (xs : List A) → Contains xs y → Contains (x ∷ xs) y
behind x y xs c = (suc c.0, omega (arith, c.1), c.2)

pub first_of : {A : Type 0} (x : A) (xs : List A) → Contains (x ∷ xs) x
first_of x xs = (zero, omega arith, refl)

pub here_or : {A : Type 0} (x y : A) (xs : List A) → Contains (x ∷ xs) y → (x ≡ y) ⊎ Contains xs y
here_or {A} x y xs c = at c.0 c.1 c.2
  where
    at : (k : ℕ) → k < suc (length xs) → get_or (x ∷ xs) k y ≡ y → (x ≡ y) ⊎ Contains xs y
    at zero l e = inl e
    at (suc k) l e = inr (k, omega arith, e)

pub nothing : {A : Type 0} (y : A) → Contains [] y → ⊥
nothing y c = absurd (omega (arith, c.1))

-- a list is empty, or has a first element
pub empty_or : {A : Type 0} (xs : List A) → (xs ≡ []) ⊎ ((x : A) × ((others : List A) × (xs ≡ x ∷ others)))
empty_or [] = inl refl
empty_or (x ∷ xs) = inr (x, (xs, refl))

-- ---- the newest stamp

-- a chain with a newest stamp has stamps
pub newest_first : (chain : List (Undo Image)) (stamp : Stamp) → newest chain ≡ Some stamp → (others : List Stamp) × (stamps_of chain ≡ stamp ∷ others)
newest_first [] stamp e = absurd (cc)
newest_first (undo ∷ chain) stamp e = (stamps_of chain, (let same : undo.stamp ≡ stamp = cc in ap (λ (s : Stamp). s ∷ stamps_of chain) same))

pub first_newest : (chain : List (Undo Image)) (stamp : Stamp) (others : List Stamp) → stamps_of chain ≡ stamp ∷ others → newest chain ≡ Some stamp
first_newest [] stamp others e = absurd (cc)
first_newest (undo ∷ chain) stamp others e = let same : undo.stamp ≡ stamp = cc in ap (λ (s : Stamp). Some s) same

pub none_newest : (chain : List (Undo Image)) → stamps_of chain ≡ [] → newest chain ≡ None
none_newest [] e = refl
none_newest (undo ∷ chain) e = absurd (cc)

-- what holds of every stamp holds of every record
pub apart_all : (start : ℕ) (chain : List (Undo Image)) → ((stamp : Stamp) → Contains (stamps_of chain) stamp → stamp.mark ≡ start → ⊥)
    → AllByRecursion (λ (undo : Undo Image). undo.stamp.mark ≡ start → ⊥) chain
apart_all start [] h = tt
apart_all start (undo ∷ chain) h =
    (h undo.stamp (first_of undo.stamp (stamps_of chain)), apart_all start chain (λ stamp c. h stamp (behind undo.stamp stamp (stamps_of chain) c)))

-- ---- the newest time

pub below_here : (time : ℕ) (stamp : Stamp) (others : List Stamp) → stamp.mark < time → newest_below time (stamp ∷ others) ≡ Some stamp
below_here time stamp others less = ap (λ (b : Bool). cond b (Some stamp) (newest_below time others)) (lt-ltb stamp.mark time less)

pub below_later : (time : ℕ) (stamp : Stamp) (others : List Stamp) → time ≤ stamp.mark → newest_below time (stamp ∷ others) ≡ newest_below time others
below_later time stamp others more = ap (λ (b : Bool). cond b (Some stamp) (newest_below time others)) (le-ltb stamp.mark time more)
