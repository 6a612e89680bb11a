-- Notes of blocks, one behind the other.
use Rattle.std.proofs.Common.{◌≡◌, ℕ, zero, suc, ◌+◌, ◌*◌, ◌<◌, ◌≤◌, List, [], ◌∷◌, ◌++◌, length, get_or, take, drop, refl, sym, ap, ◌∙◌, arith, append_assoc, length-append}
use Rattle.std.specs.List.{AllByRecursion, insert}
use Rattle.std.specs.Global.{Vec}
use Rattle.std.proofs.Math.ListN.{set}
use Rattle.hy_value.specs.declared.change.Change.{Change}
use Rattle.hy_notes.specs.Blocks.{joined, IsLater}

pub all_left : {X : Type 0} (P : X → Type 0) (xs ys : List X) → AllByRecursion P (xs ++ ys) → AllByRecursion P xs
all_left P [] ys all = tt
all_left P (x ∷ xs) ys all = (all.0, all_left P xs ys all.1)

pub all_right : {X : Type 0} (P : X → Type 0) (xs ys : List X) → AllByRecursion P (xs ++ ys) → AllByRecursion P ys
all_right P [] ys all = all
all_right P (x ∷ xs) ys all = all_right P xs ys all.1

pub all_both : {X : Type 0} (P : X → Type 0) (xs ys : List X) → AllByRecursion P xs → AllByRecursion P ys → AllByRecursion P (xs ++ ys)
all_both P [] ys all more = more
all_both P (x ∷ xs) ys all more = (all.0, all_both P xs ys all.1 more)

pub all_get : {X : Type 0} (P : X → Type 0) (xs : List X) (k : ℕ) (d : X) → AllByRecursion P xs → k < length xs → P (get_or xs k d)
all_get P [] k d all l = absurd (omega (arith, l))
all_get P (x ∷ xs) zero d all l = all.0
all_get P (x ∷ xs) (suc k) d all l = all_get P xs k d all.1 (omega (arith, l))

pub all_set : {X : Type 0} (P : X → Type 0) (xs : List X) (k : ℕ) (y : X) → P y → AllByRecursion P xs → AllByRecursion P (set xs k y)
all_set P [] k y p all = tt
all_set P (x ∷ xs) zero y p all = (p, all.1)
all_set P (x ∷ xs) (suc k) y p all = (all.0, all_set P xs k y p all.1)

pub all_insert : {X : Type 0} (P : X → Type 0) (xs : List X) (k : ℕ) (y : X) → P y → AllByRecursion P xs → AllByRecursion P (insert xs k y)
all_insert P [] zero y p all = (p, tt)
all_insert P [] (suc k) y p all = (p, tt)
all_insert P (x ∷ xs) zero y p all = (p, all)
all_insert P (x ∷ xs) (suc k) y p all = (all.0, all_insert P xs k y p all.1)

pub all_drop : {X : Type 0} (P : X → Type 0) (xs : List X) (i : ℕ) → ((k : ℕ) (d : X) → i ≤ k → k < length xs → P (get_or xs k d)) → AllByRecursion P (drop i xs)
all_drop P [] zero h = tt
all_drop P [] (suc i) h = tt
all_drop P (x ∷ xs) zero h = (h zero x (omega arith) (omega arith), all_drop P xs zero (λ k d a b. h (suc k) d (omega arith) (omega (arith, b))))
all_drop P (x ∷ xs) (suc i) h = all_drop P xs i (λ k d a b. h (suc k) d (omega (arith, a)) (omega (arith, b)))

-- the notes before a block, its own and those behind it
pub joined_at : (xs : List (Vec Change)) (k : ℕ) (d : Vec Change) → k < length xs → joined xs ≡ joined (take k xs) ++ ((get_or xs k d).items ++ joined (drop (suc k) xs))
joined_at [] k d l = absurd (omega (arith, l))
joined_at (x ∷ xs) zero d l = refl
joined_at (x ∷ xs) (suc k) d l =
    ap (λ (ns : List Change). x.items ++ ns) (joined_at xs k d (omega (arith, l))) ∙ sym (append_assoc x.items (joined (take k xs)) ((get_or xs k d).items ++ joined (drop (suc k) xs)))

pub joined_set : (xs : List (Vec Change)) (k : ℕ) (y : Vec Change) → k < length xs → joined (set xs k y) ≡ joined (take k xs) ++ (y.items ++ joined (drop (suc k) xs))
joined_set [] k y l = absurd (omega (arith, l))
joined_set (x ∷ xs) zero y l = refl
joined_set (x ∷ xs) (suc k) y l =
    ap (λ (ns : List Change). x.items ++ ns) (joined_set xs k y (omega (arith, l))) ∙ sym (append_assoc x.items (joined (take k xs)) (y.items ++ joined (drop (suc k) xs)))

-- how many notes there are with another block
pub length_set : (xs : List (Vec Change)) (k : ℕ) (y d : Vec Change) → k < length xs → length (joined (set xs k y)) + length (get_or xs k d).items ≡ length (joined xs) + length y.items
length_set [] k y d l = absurd (omega (arith, l))
length_set (x ∷ xs) zero y d l =
    let a = length-append y.items (joined xs) in
    let b = length-append x.items (joined xs) in
    omega (arith, a, b)
length_set (x ∷ xs) (suc k) y d l =
    let a = length-append x.items (joined (set xs k y)) in
    let b = length-append x.items (joined xs) in
    let c = length_set xs k y d (omega (arith, l)) in
    omega (arith, a, b, c)

pub length_insert : (xs : List (Vec Change)) (k : ℕ) (y : Vec Change) → k ≤ length xs → length (joined (insert xs k y)) ≡ length (joined xs) + length y.items
length_insert xs zero y l = let a = length-append y.items (joined xs) in omega (arith, a)
length_insert [] (suc k) y l = absurd (omega (arith, l))
length_insert (x ∷ xs) (suc k) y l =
    let a = length-append x.items (joined (insert xs k y)) in
    let b = length-append x.items (joined xs) in
    let c = length_insert xs k y (omega (arith, l)) in
    omega (arith, a, b, c)

-- blocks that aren't less than half full have so many notes, and as many again for a full one
pub least_in : (xs : List (Vec Change)) → AllByRecursion IsLater xs → 64 * length xs ≤ length (joined xs)
least_in [] all = omega arith
least_in (x ∷ xs) all =
    let a = length-append x.items (joined xs) in
    let b = least_in xs all.1 in
    let c : 64 ≤ length x.items = all.0.least in
    omega (arith, a, b, c)

pub full_in : (xs : List (Vec Change)) (k : ℕ) (d : Vec Change) → AllByRecursion IsLater xs → k < length xs → 128 ≤ length (get_or xs k d).items → 64 * length xs + 64 ≤ length (joined xs)
full_in [] k d all l m = absurd (omega (arith, l))
full_in (x ∷ xs) zero d all l m =
    let a = length-append x.items (joined xs) in
    let b = least_in xs all.1 in
    omega (arith, a, b, m)
full_in (x ∷ xs) (suc k) d all l m =
    let a = length-append x.items (joined xs) in
    let b = full_in xs k d all.1 (omega (arith, l)) m in
    let c : 64 ≤ length x.items = all.0.least in
    omega (arith, a, b, c)

-- the notes of one block are some of all
pub some_of : (xs : List (Vec Change)) (k : ℕ) (d : Vec Change) → k < length xs → length (get_or xs k d).items ≤ length (joined xs)
some_of [] k d l = absurd (omega (arith, l))
some_of (x ∷ xs) zero d l = let a = length-append x.items (joined xs) in omega (arith, a)
some_of (x ∷ xs) (suc k) d l =
    let a = length-append x.items (joined xs) in
    let b = some_of xs k d (omega (arith, l)) in
    omega (arith, a, b)

-- a block in two: the halves stand where it stood
module _ (low high : Vec Change) where
  pub halved_take : (xs : List (Vec Change)) (k : ℕ) → k < length xs → take k (insert (set xs k low) (suc k) high) ≡ take k xs
  halved_take [] k l = absurd (omega (arith, l))
  halved_take (x ∷ xs) zero l = refl
  halved_take (x ∷ xs) (suc k) l = ap (λ (ys : List (Vec Change)). x ∷ ys) (halved_take xs k (omega (arith, l)))

  pub halved_drop : (xs : List (Vec Change)) (k : ℕ) → k < length xs → drop (suc (suc k)) (insert (set xs k low) (suc k) high) ≡ drop (suc k) xs
  halved_drop [] k l = absurd (omega (arith, l))
  halved_drop (x ∷ xs) zero l = refl
  halved_drop (x ∷ xs) (suc k) l = halved_drop xs k (omega (arith, l))

  pub halved_low : (xs : List (Vec Change)) (k : ℕ) (d : Vec Change) → k < length xs → get_or (insert (set xs k low) (suc k) high) k d ≡ low
  halved_low [] k d l = absurd (omega (arith, l))
  halved_low (x ∷ xs) zero d l = refl
  halved_low (x ∷ xs) (suc k) d l = halved_low xs k d (omega (arith, l))

  pub halved_high : (xs : List (Vec Change)) (k : ℕ) (d : Vec Change) → k < length xs → get_or (insert (set xs k low) (suc k) high) (suc k) d ≡ high
  halved_high [] k d l = absurd (omega (arith, l))
  halved_high (x ∷ xs) zero d l = refl
  halved_high (x ∷ xs) (suc k) d l = halved_high xs k d (omega (arith, l))
