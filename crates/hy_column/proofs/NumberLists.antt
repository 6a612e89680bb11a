-- Numbers with a bit beside each.
use Rattle.std.proofs.Common.{◌≡◌, ℕ, ℤ, pos, zero, suc, ◌<◌, Bool, true, false, List, [], ◌∷◌, length, map, replicate, get_or, Option, None, Some, refl, sym, ap, ◌∙◌, arith}
use Rattle.std.specs.Prelude.{if◌then◌else◌, not, ◌&&◌}
use Rattle.hy_value.specs.declared.Cmp.{Cmp}
use Rattle.hy_kernel.specs.Bits.{compares}
use Rattle.hy_column.specs.Compared.{compares_number}
use lib.Lanes.{zip2}
use Rattle.std.proofs.Math.ListN.{set}
use Rattle.hy_column.specs.Numbers.{numbers, is_null}

pub length_numbers : (values : List ℤ) (nulls : List Bool) → length nulls ≡ length values → length (numbers values nulls) ≡ length values
length_numbers [] nulls e = refl
length_numbers (n ∷ ns) [] e = absurd (omega (arith, e))
length_numbers (n ∷ ns) (b ∷ bs) e = let rest = length_numbers ns bs (omega (arith, e)) in omega (arith, rest)

pub number_at : (values : List ℤ) (nulls : List Bool) (k : ℕ) → length nulls ≡ length values → k < length values
    → get_or (numbers values nulls) k None ≡ (if get_or nulls k false then None else Some (get_or values k (pos 0)))
number_at [] nulls k e l = absurd (omega arith)
number_at (n ∷ ns) [] k e l = absurd (omega (arith, e))
number_at (n ∷ ns) (b ∷ bs) zero e l = refl
number_at (n ∷ ns) (b ∷ bs) (suc k) e l = number_at ns bs k (omega (arith, e)) (omega arith)

pub with_null : (values : List ℤ) (nulls : List Bool) (k : ℕ) → length nulls ≡ length values → numbers values (set nulls k true) ≡ set (numbers values nulls) k None
with_null [] nulls zero e = refl
with_null [] nulls (suc k) e = refl
with_null (n ∷ ns) [] k e = absurd (omega (arith, e))
with_null (n ∷ ns) (b ∷ bs) zero e = refl
with_null (n ∷ ns) (b ∷ bs) (suc k) e = ap (λ (xs : List (Option ℤ)). (if b then None else Some n) ∷ xs) (with_null ns bs k (omega (arith, e)))

pub with_number : (values : List ℤ) (nulls : List Bool) (k : ℕ) (number : ℤ) → length nulls ≡ length values
    → numbers (set values k number) (set nulls k false) ≡ set (numbers values nulls) k (Some number)
with_number [] nulls zero number e = refl
with_number [] nulls (suc k) number e = refl
with_number (n ∷ ns) [] k number e = absurd (omega (arith, e))
with_number (n ∷ ns) (b ∷ bs) zero number e = refl
with_number (n ∷ ns) (b ∷ bs) (suc k) number e = ap (λ (xs : List (Option ℤ)). (if b then None else Some n) ∷ xs) (with_number ns bs k number (omega (arith, e)))

bit_back : (b : Bool) (n : ℤ) → is_null (if b then None else Some n) ≡ b
bit_back true n = refl
bit_back false n = refl

pub nulls_back : (values : List ℤ) (nulls : List Bool) → length nulls ≡ length values → nulls ≡ map is_null (numbers values nulls)
nulls_back [] [] e = refl
nulls_back [] (b ∷ bs) e = absurd (omega (arith, e))
nulls_back (n ∷ ns) [] e = absurd (omega (arith, e))
nulls_back (n ∷ ns) (b ∷ bs) e =
    ap (λ (c : Bool). c ∷ bs) (sym (bit_back b n)) ∙ ap (λ (cs : List Bool). is_null (if b then None else Some n) ∷ cs) (nulls_back ns bs (omega (arith, e)))

pub all_zeros : (n : ℕ) → numbers (replicate n (pos 0)) (replicate n false) ≡ replicate n (Some (pos 0))
all_zeros zero = refl
all_zeros (suc n) = ap (λ (xs : List (Option ℤ)). Some (pos 0) ∷ xs) (all_zeros n)

some_of : (b : Bool) (n m : ℤ) → (if b then None else Some n) ≡ Some m → n ≡ m
some_of true n m e = absurd (cc)
some_of false n m e = cc

pub value_there : (values : List ℤ) (nulls : List Bool) (k : ℕ) (number : ℤ) → length nulls ≡ length values → get_or (numbers values nulls) k None ≡ Some number
    → get_or values k (pos 0) ≡ number
value_there [] nulls k number e h = absurd (past k h)
  where
    past : (k : ℕ) → get_or (numbers [] nulls) k None ≡ Some number → ⊥
    past zero h = cc
    past (suc k) h = cc
value_there (n ∷ ns) [] k number e h = absurd (omega (arith, e))
value_there (n ∷ ns) (b ∷ bs) zero number e h = some_of b n number h
value_there (n ∷ ns) (b ∷ bs) (suc k) number e h = value_there ns bs k number (omega (arith, e)) h

-- the bits of a comparison, where NULL's are cleared
known_bit : (op : Cmp) (right : ℤ) (b : Bool) (n : ℤ) → (compares op right n && not b) ≡ compares_number op right (if b then None else Some n)
known_bit op right true n = with_false (compares op right n)
  where
    with_false : (c : Bool) → (c && false) ≡ false
    with_false true = refl
    with_false false = refl
known_bit op right false n = with_true (compares op right n)
  where
    with_true : (c : Bool) → (c && true) ≡ c
    with_true true = refl
    with_true false = refl

pub bits_compared : (op : Cmp) (right : ℤ) (values : List ℤ) (nulls : List Bool) → length nulls ≡ length values
    → zip2 (λ bit other. bit && not other) (map (compares op right) values) nulls ≡ map (compares_number op right) (numbers values nulls)
bits_compared op right [] [] e = refl
bits_compared op right [] (b ∷ bs) e = absurd (omega (arith, e))
bits_compared op right (n ∷ ns) [] e = absurd (omega (arith, e))
bits_compared op right (n ∷ ns) (b ∷ bs) e = λ i. known_bit op right b n i ∷ bits_compared op right ns bs (omega (arith, e)) i

pub number_with : (op : Cmp) (right : ℤ) (all : List (Option ℤ)) (k : ℕ) → k < length all
    → get_or (map (compares_number op right) all) k false ≡ compares_number op right (get_or all k None)
number_with op right [] k l = absurd (omega arith)
number_with op right (n ∷ ns) zero l = refl
number_with op right (n ∷ ns) (suc k) l = number_with op right ns k (omega arith)

-- where no bit is set all are known
pub all_known : (values : List ℤ) (nulls : List Bool) → length nulls ≡ length values → ((k : ℕ) → k < length nulls → get_or nulls k false ≡ false)
    → map Some values ≡ numbers values nulls
all_known [] nulls e none = refl
all_known (n ∷ ns) [] e none = absurd (omega (arith, e))
all_known (n ∷ ns) (b ∷ bs) e none =
    ap (λ (c : Bool). (if c then None else Some n) ∷ map Some ns) (sym (none 0 (omega arith)))
    ∙ ap (λ (rest : List (Option ℤ)). (if b then None else Some n) ∷ rest) (all_known ns bs (omega (arith, e)) (λ k l. none (suc k) (omega (arith, l))))
