-- Options and lists: what stands where, and lists that have the same elements.
use Rattle.std.proofs.Common.{◌≡◌, ◌≢◌, ◌⊎◌, ℕ, zero, suc, ◌+◌, ◌*◌, ◌<◌, eqb, Bool, false, arith, refl, sym, ap, ◌∙◌, ⊎_elim, inl, inr, Option, Some, None}
use Rattle.std.proofs.Common.{List, [], ◌∷◌, ◌++◌, map, length, replicate, get_or, set, get_or-set_other, get_or-set_same, eq-eqb, ne_eqb}
use mathlib.Core.Logic.{dite}
use mathlib.Core.Option.{some, some-injective, some-ne-none}
use native.Mathlib.Decide.{ℕ_discrete}
use lib.ListN.{get_elem?, take}
use prog.Atomic.{either}
use Rattle.std.specs.Slots.Ownership.{Filled}
use Rattle.std.specs.declared.snapshot.Snapshot.{Snapshot}
use Rattle.hy_threads.specs.Knowledge.{kept_of, shown}
use Rattle.hy_threads.specs.Seats.{slots_of}

abbrev from_some : {A : Type 0} → A → Option A → A
from_some d (Some x) = x
from_some d None = d

pub some_inj : {A : Type 0} (x y : A) → Some x ≡ Some y → x ≡ y
some_inj x y e = ap (from_some x) e

abbrev is_none : {A : Type 0} → Option A → ℕ
is_none (Some x) = 0
is_none None = 1

pub some_not_none : {A : Type 0} (x : A) → Some x ≡ None → ⊥
some_not_none x e = let h : ◌≡◌ {A = ℕ} 0 1 = ap is_none e in absurd (omega (arith, h))

-- what is held is one part
pub held_inj : {D : Type 0} (k j : ℕ) (p q : D) → ◌≡◌ {A = Option (ℕ × D)} (Some (k, p)) (Some (j, q)) → (k ≡ j) × (p ≡ q)
held_inj {D} k j p q e = let a : ℕ × D = (k, p) in let b : ℕ × D = (j, q) in let h : a ≡ b = some_inj a b e in
    (ap (λ (x : ℕ × D). x.0) h, ap (λ (x : ℕ × D). x.1) h)

-- two parts have two words
pub words_apart : (j k : ℕ) → j ≢ k → 8 * j ≢ 8 * k
words_apart j k other e = other (omega (arith, e))

pub some_at : {A : Type 0} (l : List A) (i : ℕ) → i < length l → (a : A) × (get_elem? l i ≡ some a)
some_at [] i h = absurd (omega arith)
some_at (x ∷ xs) zero h = (x, refl)
some_at (x ∷ xs) (suc i) h = some_at xs i (omega arith)

pub inside : {A : Type 0} (l : List A) (i : ℕ) (a : A) → get_elem? l i ≡ some a → i < length l
inside [] i a e = absurd (some-ne-none a (sym e))
inside (x ∷ xs) zero a e = omega arith
inside (x ∷ xs) (suc i) a e = let h = inside xs i a e in omega arith

abbrev pub first_or : {A : Type 0} → A → List A → A
first_or d [] = d
first_or d (x ∷ xs) = x

abbrev pub rest_of : {A : Type 0} → List A → List A
rest_of [] = []
rest_of (x ∷ xs) = xs

-- a seat that has no part has no slot
pub none_out : {X : Type 0} (l : List (ℕ × X)) → slots_of l ≡ [] → l ≡ []
none_out [] e = refl
none_out (x ∷ xs) e = let h : ◌≡◌ {A = ℕ} (suc (length (slots_of xs))) 0 = ap length e in absurd (omega (arith, h))

-- a seat that has the part k has the slot k alone
pub one_out : {X : Type 0} (l : List (ℕ × X)) (k : ℕ) → slots_of l ≡ k ∷ [] → (x : X) × (l ≡ (k, x) ∷ [])
one_out [] k e = let h : ◌≡◌ {A = ℕ} 0 1 = ap length e in absurd (omega (arith, h))
one_out (x ∷ xs) k e = let f : x.0 ≡ k = ap (first_or 0) e in let g : xs ≡ [] = none_out xs (ap rest_of e) in (x.1, λ i. (f i, x.1) ∷ g i)

-- a map of numbers with one entry changed
abbrev pub put : (ℕ → ℕ) → ℕ → ℕ → ℕ → ℕ
put f i x j = either (eqb j i) x (f j)

pub put_here : (f : ℕ → ℕ) (i x : ℕ) → put f i x i ≡ x
put_here f i x = ap (λ b. either b x (f i)) (eq-eqb i i refl)

pub put_else : (f : ℕ → ℕ) (i x j : ℕ) → j ≢ i → put f i x j ≡ f j
put_else f i x j other = ap (λ b. either b x (f j)) (ne_eqb j i other)

pub at_new : {A : Type 0} (l : List A) (a b : A) (j : ℕ) → get_elem? (l ++ a ∷ []) j ≡ some b → (get_elem? l j ≡ some b) ⊎ ((a ≡ b) × (j ≡ length l))
at_new [] a b zero e = inr (some-injective a b e, refl)
at_new [] a b (suc j) e = absurd (some-ne-none b (sym e))
at_new (x ∷ xs) a b zero e = inl e
at_new (x ∷ xs) a b (suc j) e =
    ⊎_elim (λ (h : get_elem? xs j ≡ some b). inl h) (λ (h : (a ≡ b) × (j ≡ length xs)). inr (h.0, ap suc h.1)) (at_new xs a b j e)

pub same_list : {A : Type 0} (xs ys : List A) → length ys ≡ length xs → ((i : ℕ) (a : A) → get_elem? xs i ≡ some a → get_elem? ys i ≡ some a) → ys ≡ xs
same_list [] [] len h = refl
same_list [] (y ∷ ys) len h = absurd (omega arith)
same_list (x ∷ xs) [] len h = absurd (omega arith)
same_list (x ∷ xs) (y ∷ ys) len h = λ i. some-injective y x (h 0 x refl) i ∷ same_list xs ys (omega arith) (λ j a e. h (suc j) a e) i

pub from_map : {A : Type 0} (xs : List A) (i : ℕ) (a : A) → get_elem? (map Some xs) i ≡ some (Some a) → get_elem? xs i ≡ some a
from_map [] i a e = absurd (some-ne-none (Some a) (sym e))
from_map (x ∷ xs) zero a e = ap some (some_inj x a (some-injective (Some x) (Some a) e))
from_map (x ∷ xs) (suc i) a e = from_map xs i a e

pub at_some : {A : Type 0} (xs : List A) (i : ℕ) (a : A) → get_elem? xs i ≡ some a → get_elem? (map Some xs) i ≡ some (Some a)
at_some [] i a e = absurd (some-ne-none a (sym e))
at_some (x ∷ xs) zero a e = ap (λ (z : _). some (Some z)) (some-injective x a e)
at_some (x ∷ xs) (suc i) a e = at_some xs i a e

pub map_some_inj : {A : Type 0} (xs ys : List A) → map Some xs ≡ map Some ys → xs ≡ ys
map_some_inj [] [] e = refl
map_some_inj {A} [] (y ∷ ys) e = let h : ◌≡◌ {A = ℕ} 0 (suc (length (map Some ys))) = ap length e in absurd (omega (arith, h))
map_some_inj {A} (x ∷ xs) [] e = let h : ◌≡◌ {A = ℕ} (suc (length (map Some xs))) 0 = ap length e in absurd (omega (arith, h))
map_some_inj (x ∷ xs) (y ∷ ys) e = let h : x ≡ y = some_inj x y (ap (first_or (Some x)) e) in λ i. h i ∷ map_some_inj xs ys (ap rest_of e) i

pub take_more : {A : Type 0} (l : List A) (k : ℕ) (a : A) → get_elem? l k ≡ some a → take (suc k) l ≡ take k l ++ a ∷ []
take_more [] k a e = absurd (some-ne-none a (sym e))
take_more (x ∷ xs) zero a e = λ i. some-injective x a e i ∷ []
take_more (x ∷ xs) (suc k) a e = λ i. x ∷ take_more xs k a e i

pub take_whole : {A : Type 0} (l : List A) (k : ℕ) → k ≡ length l → take k l ≡ l
take_whole [] zero e = refl
take_whole [] (suc k) e = refl
take_whole (x ∷ xs) zero e = absurd (omega arith)
take_whole (x ∷ xs) (suc k) e = λ i. x ∷ take_whole xs k (omega arith) i

pub replicate_more : {A : Type 0} (n : ℕ) (a : A) (l : List A) → (l ++ replicate n a) ++ a ∷ [] ≡ l ++ replicate (suc n) a
replicate_more zero a [] = refl
replicate_more (suc n) a [] = λ i. a ∷ replicate_more n a [] i
replicate_more n a (x ∷ xs) = λ i. x ∷ replicate_more n a xs i

pub zeros : (n k : ℕ) → ◌≡◌ {A = ℕ} (get_or (replicate n 0) k 0) 0
zeros zero k = refl
zeros (suc n) zero = refl
zeros (suc n) (suc k) = zeros n k

-- slots that are taken out one after another: those behind are filled, and those before are empty
pub still_full : (f : List Bool) (k n : ℕ) → Filled f k n → Filled (set f k false) (k + 1) n
still_full f k n h j low high = get_or-set_other f k j false false (λ e. omega arith) ∙ h j (omega arith) high

pub all_empty : (f : List Bool) (k : ℕ) → k < length f → ((j : ℕ) → j < k → get_or f j false ≡ false)
    → (j : ℕ) → j < k + 1 → get_or (set f k false) j false ≡ false
all_empty f k low h j below = dite (ℕ_discrete j k) (λ e. ap (λ (z : ℕ). get_or (set f k false) z false) e ∙ get_or-set_same f k false false low)
    (λ e. get_or-set_other f k j false false e ∙ h j (omega arith))

-- what snapshots of sessions keep is the sessions
pub map_kept_of : {S : Type 0} (key : List (Snapshot S)) (sessions : List S) → map shown key ≡ sessions → map kept_of key ≡ map Some sessions
map_kept_of {S} key sessions e = both_maps key ∙ ap (map Some) e
  where
    both_maps : (l : List (Snapshot S)) → map kept_of l ≡ map Some (map shown l)
    both_maps [] = refl
    both_maps (x ∷ xs) = λ i. kept_of x ∷ both_maps xs i
