-- Lists item by item: what a longer list keeps, and what is said of every item.
use Rattle.std.proofs.Common.{◌≡◌, ℕ, zero, suc, ◌+◌, ◌≤◌, List, [], ◌∷◌, ◌++◌, Option, None, Some, Bool, true, false, length}
use Rattle.std.proofs.Common.{map, take, cond, refl, sym, subst, arith, inl, inr, ◌⊎◌, zero-add, add-zero}
use Rattle.std.specs.Prelude.{slice_get, filter}
use Rattle.std.specs.List.{AllByRecursion}
use Rattle.std.specs.Option.{option_or}
use Rattle.std.proofs.lemmas.Option.{same_Some}
use Rattle.hy_lawful.specs.Outcomes.{EachFrom}

pub kept_in_front : {X : Type 0} (xs ys : List X) (i : ℕ) (x : X) → slice_get xs i ≡ Some x → slice_get (xs ++ ys) i ≡ Some x
kept_in_front [] ys i x e = absurd cc
kept_in_front (y ∷ xs) ys zero x e = e
kept_in_front (y ∷ xs) ys (suc i) x e = kept_in_front xs ys i x e

pub last_item : {X : Type 0} (xs : List X) (x : X) → slice_get (xs ++ x ∷ []) (length xs) ≡ Some x
last_item [] x = refl
last_item (y ∷ xs) x = last_item xs x

pub over_past : {X : Type 0} (xs : List X) (i : ℕ) → slice_get xs i ≡ None → length xs ≤ i
over_past [] i e = omega arith
over_past (x ∷ xs) zero e = absurd cc
over_past (x ∷ xs) (suc i) e = omega (arith, over_past xs i e)

-- ---- what is said of each item

pub all_more : {X : Type 0} (P : X → Type 0) (xs : List X) (x : X) → AllByRecursion P xs → P x → AllByRecursion P (xs ++ x ∷ [])
all_more P [] x h p = (p, tt)
all_more P (y ∷ xs) x h p = (h.0, all_more P xs x h.1 p)

pub all_joined : {X : Type 0} (P : X → Type 0) (xs ys : List X) → AllByRecursion P xs → AllByRecursion P ys → AllByRecursion P (xs ++ ys)
all_joined P [] ys h k = k
all_joined P (x ∷ xs) ys h k = (h.0, all_joined P xs ys h.1 k)

pub all_mapped : {X Y : Type 0} (P : Y → Type 0) (f : X → Y) (xs : List X) → AllByRecursion (λ x. P (f x)) xs → AllByRecursion P (map f xs)
all_mapped P f [] h = tt
all_mapped P f (x ∷ xs) h = (h.0, all_mapped P f xs h.1)

pub all_so : {X : Type 0} (P Q : X → Type 0) (xs : List X) → ((x : X) → P x → Q x) → AllByRecursion P xs → AllByRecursion Q xs
all_so P Q [] f h = tt
all_so P Q (x ∷ xs) f h = (f x h.0, all_so P Q xs f h.1)

-- of the first items
pub all_taken : {X : Type 0} (P : X → Type 0) (n : ℕ) (xs : List X) → AllByRecursion P xs → AllByRecursion P (take n xs)
all_taken P zero xs h = tt
all_taken P (suc n) [] h = tt
all_taken P (suc n) (x ∷ xs) h = (h.0, all_taken P n xs h.1)

kept_then : {X : Type 0} (P : X → Type 0) (x : X) (kept : List X) (b : Bool) → (b ≡ true → P x) → AllByRecursion P kept
    → AllByRecursion P (cond b (x ∷ kept) kept)
kept_then P x kept true h rest = (h refl, rest)
kept_then P x kept false h rest = rest

-- of the items that are kept
pub all_kept : {X : Type 0} (P : X → Type 0) (keep : X → Bool) (xs : List X) → AllByRecursion (λ x. keep x ≡ true → P x) xs
    → AllByRecursion P (filter keep xs)
all_kept P keep [] h = tt
all_kept P keep (x ∷ xs) h = kept_then P x (filter keep xs) (keep x) h.0 (all_kept P keep xs h.1)

pub each_more : {X : Type 0} (first : ℕ) (P : ℕ → X → Type 0) (xs : List X) (x : X) → EachFrom first P xs → P (first + length xs) x
    → EachFrom first P (xs ++ x ∷ [])
each_more first P [] x h p = (subst (λ n. P n x) (add-zero first) p, tt)
each_more first P (y ∷ xs) x h p = (
  h.0,
  each_more (suc first) P xs x h.1 (subst (λ n. P n x) (let e : first + suc (length xs) ≡ suc first + length xs = omega arith in e) p),
)

pub each_so : {X : Type 0} (first : ℕ) (P Q : ℕ → X → Type 0) (xs : List X) → ((n : ℕ) (x : X) → P n x → Q n x) → EachFrom first P xs → EachFrom first Q xs
each_so first P Q [] f h = tt
each_so first P Q (x ∷ xs) f h = (f first x h.0, each_so (suc first) P Q xs f h.1)

pub item_from : {X : Type 0} (first : ℕ) (P : ℕ → X → Type 0) (xs : List X) → EachFrom first P xs → (i : ℕ) (x : X) → slice_get xs i ≡ Some x
    → P (first + i) x
item_from first P [] h i x e = absurd cc
item_from first P (y ∷ ys) h zero x e =
    subst (λ n. P n x) (sym (add-zero first)) (subst (P first) (same_Some y x e) h.0)
item_from first P (y ∷ ys) h (suc i) x e =
    subst (λ n. P n x) (let same : suc first + i ≡ first + suc i = omega arith in same) (item_from (suc first) P ys h.1 i x e)

-- the item of a number, the first having number 0
pub item_at_number : {X : Type 0} (P : ℕ → X → Type 0) (xs : List X) → EachFrom 0 P xs → (i : ℕ) (x : X) → slice_get xs i ≡ Some x → P i x
item_at_number P xs h i x e = subst (λ n. P n x) (zero-add i) (item_from 0 P xs h i x e)

pub one_of : {X : Type 0} (P : X → Type 0) (xs : List X) → AllByRecursion P xs → (i : ℕ) (x : X) → slice_get xs i ≡ Some x → P x
one_of P [] h i x e = absurd cc
one_of P (y ∷ xs) h zero x e = subst P (same_Some y x e) h.0
one_of P (y ∷ xs) h (suc i) x e = one_of P xs h.1 i x e

-- ---- choices

pub or_some : {X : Type 0} (a b : Option X) (x : X) → option_or a b ≡ Some x → (a ≡ Some x) ⊎ (b ≡ Some x)
or_some None b x e = inr e
or_some (Some a) b x e = inl e

pub none_or : {X : Type 0} (a b : Option X) → a ≡ None → option_or a b ≡ b
none_or None b e = refl
none_or (Some a) b e = absurd cc

pub chosen : {X : Type 0} (b : Bool) (x y : X) → cond b (Some x) None ≡ Some y → x ≡ y
chosen true x y e = same_Some x y e
chosen false x y e = absurd cc
