-- Numbers and NULLs of a column, one by one.
use Rattle.std.proofs.Common.{◌≡◌, ℕ, suc, zero, ◌+◌, ◌-◌, ◌<◌, ◌≤◌, List, [], ◌∷◌, ◌++◌, length, get_or, take, refl, ap, sym, ◌∙◌, arith}
use Rattle.std.specs.Prelude.{Bool, true, false, ℤ, pos, map, replicate}
use Rattle.std.proofs.lemmas.List.{append-nil, length-append, get_or_append_left, get_or-append_right, get_or_past, take_all}
use Rattle.hy_value.specs.declared.Value.{Value}
use Rattle.hy_value.specs.declared.Value.TheVariants.{Null, Int}
use Rattle.hy_bound.specs.Predicate.{column_of}
use Rattle.hy_plan.specs.Numbers.{number_or_null, numbered}

-- there are as many values as numbers
pub length-numbered : (numbers : List ℤ) (nulls : List Bool) → length (numbered numbers nulls) ≡ length numbers
length-numbered [] nulls = refl
length-numbered (n ∷ ns) [] = let h : length (numbered ns []) ≡ length ns = length-numbered ns [] in omega (arith, h)
length-numbered (n ∷ ns) (b ∷ bs) = let h : length (numbered ns bs) ≡ length ns = length-numbered ns bs in omega (arith, h)

-- the value of a row
get_or-numbered : (numbers : List ℤ) (nulls : List Bool) (i : ℕ) (m : ℤ) → i < length numbers
    → get_or (numbered numbers nulls) i Null ≡ number_or_null (get_or nulls i false) (get_or numbers i m)
get_or-numbered [] bs i m below = absurd (omega (arith, below))
get_or-numbered (x ∷ xs) [] zero m below = refl
get_or-numbered (x ∷ xs) [] (suc i) m below =
    get_or-numbered xs [] i m (omega (arith, below)) ∙ ap (λ (b : Bool). number_or_null b (get_or xs i m)) (get_or_past [] i false (omega arith))
get_or-numbered (x ∷ xs) (b ∷ bs) zero m below = refl
get_or-numbered (x ∷ xs) (b ∷ bs) (suc i) m below = get_or-numbered xs bs i m (omega (arith, below))

-- the first of them
take_none : (n : ℕ) → take {A = Bool} n [] ≡ []
take_none zero = refl
take_none (suc n) = refl

take-numbered : (n : ℕ) (numbers : List ℤ) (nulls : List Bool) → numbered (take n numbers) (take n nulls) ≡ take n (numbered numbers nulls)
take-numbered zero numbers nulls = refl
take-numbered (suc n) [] nulls = refl
take-numbered (suc n) (m ∷ ms) [] =
    ap (λ (vs : List Value). Int m ∷ vs) (ap (numbered (take n ms)) (sym (take_none n)) ∙ take-numbered n ms [])
take-numbered (suc n) (m ∷ ms) (b ∷ bs) = ap (λ (vs : List Value). number_or_null b m ∷ vs) (take-numbered n ms bs)

-- without NULL
pub all_numbers : (numbers : List ℤ) → numbered numbers [] ≡ map Int numbers
all_numbers [] = refl
all_numbers (n ∷ ns) = ap (λ (vs : List Value). Int n ∷ vs) (all_numbers ns)

-- numbers behind the others
pub numbers_behind : (numbers more : List ℤ) (nulls : List Bool) → length nulls ≤ length numbers
    → numbered (numbers ++ more) nulls ≡ numbered numbers nulls ++ map Int more
numbers_behind [] more [] few = all_numbers more
numbers_behind [] more (b ∷ bs) few = absurd (omega (arith, few))
numbers_behind (n ∷ ns) more [] few = ap (λ (vs : List Value). Int n ∷ vs) (numbers_behind ns more [] (omega arith))
numbers_behind (n ∷ ns) more (b ∷ bs) few = ap (λ (vs : List Value). number_or_null b n ∷ vs) (numbers_behind ns more bs (omega (arith, few)))

-- to tell of more that they aren't NULL changes nothing
filled : (numbers : List ℤ) (nulls : List Bool) (k : ℕ) → numbered numbers (nulls ++ replicate k false) ≡ numbered numbers nulls
filled [] nulls k = refl
filled (n ∷ ns) [] zero = refl
filled (n ∷ ns) [] (suc k) = ap (λ (vs : List Value). Int n ∷ vs) (filled ns [] k)
filled (n ∷ ns) (b ∷ bs) k = ap (λ (vs : List Value). number_or_null b n ∷ vs) (filled ns bs k)

pub told : (numbers : List ℤ) (nulls marks : List Bool) (k : ℕ) → length nulls ≤ length numbers → marks ≡ take (length numbers) nulls ++ replicate k false
    → numbered numbers marks ≡ numbered numbers nulls
told numbers nulls marks k few is =
    ap (numbered numbers) (is ∙ ap (λ (bs : List Bool). bs ++ replicate k false) (take_all (length numbers) nulls few)) ∙ filled numbers nulls k

-- one more
pub numbered-append : (numbers : List ℤ) (nulls : List Bool) (number : ℤ) (is_null : Bool) → length nulls ≡ length numbers
    → numbered (numbers ++ number ∷ []) (nulls ++ is_null ∷ []) ≡ numbered numbers nulls ++ number_or_null is_null number ∷ []
numbered-append [] [] number is_null even = refl
numbered-append [] (b ∷ bs) number is_null even = absurd (omega (arith, even))
numbered-append (n ∷ ns) [] number is_null even = absurd (omega (arith, even))
numbered-append (n ∷ ns) (b ∷ bs) number is_null even = ap (λ (vs : List Value). number_or_null b n ∷ vs) (numbered-append ns bs number is_null (omega (arith, even)))

-- A column: numbers, and then others.

-- a value among the numbers
pub among_numbers : (numbers : List ℤ) (nulls : List Bool) (others : List Value) (i : ℕ) (m : ℤ) → i < length numbers
    → number_or_null (get_or nulls i false) (get_or numbers i m) ≡ column_of (numbered numbers nulls ++ others) i
among_numbers numbers nulls others i m below =
    sym (get_or_append_left (numbered numbers nulls) others Null i (omega (arith, below, length-numbered numbers nulls)) ∙ get_or-numbered numbers nulls i m below)

any_default : (values : List Value) (i : ℕ) (d e : Value) → i < length values → get_or values i d ≡ get_or values i e
any_default [] i d e below = absurd (omega (arith, below))
any_default (v ∷ vs) zero d e below = refl
any_default (v ∷ vs) (suc i) d e below = any_default vs i d e (omega (arith, below))

-- a value among the others
pub among_others : (numbers : List ℤ) (nulls : List Bool) (others : List Value) (i k : ℕ) (value : Value) → length numbers ≤ i → k ≡ i - length numbers
    → k < length others → value ≡ get_or others k value → value ≡ column_of (numbered numbers nulls ++ others) i
among_others numbers nulls others i k value past place below at =
    at
    ∙ (any_default others k value Null below
    ∙ (ap (λ (n : ℕ). get_or others n Null) place
    ∙ sym (get_or-append_right (numbered numbers nulls) others (length numbers) i Null (length-numbered numbers nulls) past)))

take_both : (n : ℕ) (xs ys : List Value) → take n (xs ++ ys) ≡ take n xs ++ take (n - length xs) ys
take_both zero xs ys = ap (λ (m : ℕ). take m ys) (none (length xs))
  where
    none : (m : ℕ) → 0 ≡ 0 - m
    none m = omega arith
take_both (suc n) [] ys = ap (λ (m : ℕ). take m ys) (same n)
  where
    same : (m : ℕ) → suc m ≡ suc m - 0
    same m = omega arith
take_both (suc n) (x ∷ xs) ys = ap (λ (vs : List Value). x ∷ vs) (take_both n xs ys ∙ ap (λ (m : ℕ). take n xs ++ take m ys) (less n (length xs)))
  where
    less : (m k : ℕ) → m - k ≡ suc m - suc k
    less m k = omega arith

-- the first values of a column
pub take-column : (n : ℕ) (numbers : List ℤ) (nulls : List Bool) (others : List Value)
    → numbered (take n numbers) (take n nulls) ++ take (n - length numbers) others ≡ take n (numbered numbers nulls ++ others)
take-column n numbers nulls others =
    ap (λ (vs : List Value). vs ++ take (n - length numbers) others) (take-numbered n numbers nulls)
    ∙ (ap (λ (m : ℕ). take n (numbered numbers nulls) ++ take (n - m) others) (sym (length-numbered numbers nulls)) ∙ sym (take_both n (numbered numbers nulls) others))

-- more numbers, where there are no others
pub numbers_more : (numbers more : List ℤ) (nulls : List Bool) (others : List Value) → length nulls ≤ length numbers → length others ≡ 0
    → numbered (numbers ++ more) nulls ++ others ≡ (numbered numbers nulls ++ others) ++ map Int more
numbers_more numbers more nulls [] few none =
    append-nil (numbered (numbers ++ more) nulls)
    ∙ (numbers_behind numbers more nulls few ∙ ap (λ (vs : List Value). vs ++ map Int more) (sym (append-nil (numbered numbers nulls))))
numbers_more numbers more nulls (v ∷ vs) few none = absurd (omega (arith, none))

-- others, where there are none
pub behind_none : (before values others : List Value) → length others ≡ 0 → (before ++ values) ++ others ≡ (before ++ others) ++ values
behind_none before values [] none = append-nil (before ++ values) ∙ ap (λ (vs : List Value). vs ++ values) (sym (append-nil before))
behind_none before values (v ∷ vs) none = absurd (omega (arith, none))

-- there are as many values as numbers and others
pub length-column : (numbers : List ℤ) (nulls : List Bool) (others : List Value) → length (numbered numbers nulls ++ others) ≡ length numbers + length others
length-column numbers nulls others = length-append (numbered numbers nulls) others ∙ ap (λ (n : ℕ). n + length others) (length-numbered numbers nulls)

-- the first values of a column without NULL
pub first_numbers : (numbers : List ℤ) (nulls : List Bool) (others : List Value) (len : ℕ) → length nulls ≡ 0 → len ≤ length numbers
    → map Int (take len numbers) ≡ take len (numbered numbers nulls ++ others)
first_numbers numbers nulls others zero none few = refl
first_numbers [] nulls others (suc len) none few = absurd (omega (arith, few))
first_numbers (n ∷ ns) [] others (suc len) none few = ap (λ (vs : List Value). Int n ∷ vs) (first_numbers ns [] others len none (omega (arith, few)))
first_numbers (n ∷ ns) (b ∷ bs) others (suc len) none few = absurd (omega (arith, none))

-- NULL behind the numbers
pub null_more : (numbers more : List ℤ) (nulls told marks : List Bool) → numbered numbers told ≡ numbered numbers nulls → length told ≡ length numbers
    → more ≡ numbers ++ pos 0 ∷ [] → marks ≡ told ++ true ∷ [] → numbered more marks ≡ numbered numbers nulls ++ Null ∷ []
null_more numbers more nulls told marks same even put marked =
    (λ i. numbered (put i) (marked i)) ∙ (numbered-append numbers told (pos 0) true even ∙ ap (λ (vs : List Value). vs ++ Null ∷ []) same)
