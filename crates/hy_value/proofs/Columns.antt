-- Values up to a column and from it on.
use Rattle.std.proofs.Common.{◌≡◌, ℕ, ◌+◌, ◌<◌, ◌≤◌, true, false, List, [], ◌∷◌, ◌++◌, length, drop, take, get_or, suc, add-one, refl, ap, ◌∙◌, sym, arith, zero}
use Rattle.std.proofs.lemmas.List.{take_more, get_or_default}
use Rattle.std.specs.Ordering.{ordering_then, is_ne}
use Rattle.std.specs.declared.cmp.Ordering.{Ordering}
use Rattle.std.specs.declared.cmp.Ordering.TheVariants.{Less, Equal, Greater}
use Rattle.hy_value.specs.declared.Value.{Value}
use Rattle.hy_value.specs.declared.Value.TheVariants as value
use Rattle.hy_value.specs.Order.{value_cmp, row_cmp}
use Rattle.hy_value.specs.Cells.{text_count, texts_in}
use Rattle.hy_value.proofs.RowsFrom.{cmp_from, drop-nil}

texts_step : (vs : List Value) (i : ℕ) (d : Value) → i < length vs → texts_in (take (suc i) vs) ≡ texts_in (take i vs) + text_count (get_or vs i d)
texts_step [] i d low = absurd (omega arith)
texts_step (v ∷ vs) zero d low = omega arith
texts_step (v ∷ vs) (suc i) d low = let inner : texts_in (take (suc i) vs) ≡ texts_in (take i vs) + text_count (get_or vs i d) = texts_step vs i d (omega arith) in omega arith

-- one more column has its texts more
pub texts_more : (vs : List Value) (i : ℕ) (v : Value) → i < length vs → v ≡ get_or vs i value.Null → texts_in (take (i + 1) vs) ≡ texts_in (take i vs) + text_count v
texts_more vs i v low e = rw (add-one, e) (texts_step vs i value.Null low)

-- a value that is looked at where it stands
pub stands_at : (vs : List Value) (i : ℕ) (v w : Value) → i < length vs → v ≡ get_or vs i v → w ≡ v → w ≡ get_or vs i value.Null
stands_at vs i v w low e f = f ∙ (e ∙ get_or_default vs i v value.Null low)

-- one more column
pub values_more : (vs : List Value) (i : ℕ) (v : Value) → i < length vs → v ≡ get_or vs i value.Null → take (i + 1) vs ≡ take i vs ++ v ∷ []
values_more vs i v low e = rw e (take_more vs i value.Null low)

-- so many texts there are at most in so many columns
pub texts_in_front : (vs : List Value) (i : ℕ) → texts_in (take i vs) ≤ texts_in vs
texts_in_front [] zero = omega arith
texts_in_front [] (suc i) = omega arith
texts_in_front (v ∷ vs) zero = omega arith
texts_in_front (v ∷ vs) (suc i) = let inner : texts_in (take i vs) ≤ texts_in vs = texts_in_front vs i in omega arith

pub count_small : (v : Value) → text_count v ≤ 1
count_small value.Null = omega arith
count_small (value.Int n) = omega arith
count_small (value.Text t) = omega arith

then_ne : (o r : Ordering) → is_ne o ≡ true → ordering_then o r ≡ o
then_ne Less r h = refl
then_ne Equal r h = search h
then_ne Greater r h = refl

then_eq : (o r : Ordering) → is_ne o ≡ false → ordering_then o r ≡ r
then_eq Equal r h = refl
then_eq Less r h = search h
then_eq Greater r h = search h

pub cmp_longer : (xs ys : List Value) (i : ℕ) → i < length xs → length ys ≤ i → row_cmp (drop i xs) (drop i ys) ≡ Greater
cmp_longer (x ∷ xs) [] zero p q = refl
cmp_longer (x ∷ xs) [] (suc i) p q = ap (row_cmp (drop i xs)) (sym (drop-nil i)) ∙ cmp_longer xs [] i (omega arith) (omega arith)
cmp_longer [] ys i p q = absurd (omega arith)
cmp_longer (x ∷ xs) (y ∷ ys) zero p q = absurd (omega arith)
cmp_longer (x ∷ xs) (y ∷ ys) (suc i) p q = cmp_longer xs ys i (omega arith) (omega arith)

-- columns that differ decide
pub cmp_decided : (xs ys : List Value) (i : ℕ) (a b : Value) (o : Ordering) → i < length xs → i < length ys → a ≡ get_or xs i value.Null → b ≡ get_or ys i value.Null
    → o ≡ value_cmp a b → is_ne o ≡ true → o ≡ row_cmp (drop i xs) (drop i ys)
cmp_decided xs ys i a b o p q e f g h = sym (cmp_from xs ys i value.Null p q ∙ rw (← e, ← f, ← g) (then_ne o _ h))

-- columns that are alike leave it to what follows
pub cmp_goes_on : (xs ys : List Value) (i : ℕ) (a b : Value) (o : Ordering) → i < length xs → i < length ys → a ≡ get_or xs i value.Null → b ≡ get_or ys i value.Null
    → o ≡ value_cmp a b → is_ne o ≡ false → row_cmp (drop i xs) (drop i ys) ≡ row_cmp (drop (i + 1) xs) (drop (i + 1) ys)
cmp_goes_on xs ys i a b o p q e f g h = rw add-one (cmp_from xs ys i value.Null p q ∙ rw (← e, ← f, ← g) (then_eq o _ h))
