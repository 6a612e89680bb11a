-- How many entries from the front on pass a test.
use Rattle.std.proofs.Common.{◌≡◌, ℕ, zero, suc, ◌+◌, ◌≤◌, Bool, true, false, List, [], ◌∷◌, length, take, drop, refl, sym, ap, ◌∙◌, cond, arith, inl, inr}
use Rattle.std.specs.Prelude.{not, filter}
use Rattle.std.specs.List.{prefix_len, AllByRecursion}
use Rattle.std.specs.List.Sorted.{IsPartitionPoint}
use Rattle.std.specs.Ordering.{is_lt, is_eq, is_gt, ordering_reverse}
use Rattle.std.specs.declared.cmp.Ordering.{Ordering}
use Rattle.std.specs.declared.cmp.Ordering.TheVariants.{Less, Equal, Greater}
use Rattle.std.specs.Cmp.{alike_right}
use Rattle.std.proofs.lemmas.Bool.{cases_Bool, true≢false}
use Rattle.hy_value.specs.declared.Value.{Value}
use Rattle.hy_value.specs.Order.{value_cmp}
use Rattle.hy_value.specs.TotalOrder.{values_total}
use Rattle.hy_index.specs.Entries.{IndexEntry, entry_cmp, Ascends, has_key, below_key, up_to_key}
use Rattle.hy_index.proofs.Orders.{keys_rise, lt_up, lt_is}

-- a partition point is as many as pass from the front on
pub prefix_is : {X : Type 0} (p : X → Bool) (xs : List X) (i : ℕ) → i ≤ length xs → IsPartitionPoint (λ y. p y ≡ true) (λ y. p y ≡ false) xs i → i ≡ prefix_len p xs
prefix_is p [] zero le at = refl
prefix_is p [] (suc i) le at = absurd (omega arith)
prefix_is {X} p (x ∷ xs) zero le at =
    let fails : p x ≡ false = at.1 zero x (omega arith) (omega arith) in
    sym (ap (λ (b : Bool). cond b (1 + prefix_len p xs) 0) fails)
prefix_is {X} p (x ∷ xs) (suc i) le at =
    let passes : p x ≡ true = at.0 zero x (omega arith) (omega arith) in
    let rest = prefix_is p xs i (omega arith) (λ k d l m. at.0 (suc k) d (omega arith) (omega (arith, m)), λ k d l m. at.1 (suc k) d (omega (arith, l)) (omega (arith, m))) in
    let first : ◌≡◌ {A = ℕ} (prefix_len p (x ∷ xs)) (1 + prefix_len p xs) = ap (λ (b : Bool). cond b (1 + prefix_len p xs) 0) passes in
    omega (arith, rest, first)

pub prefix_short : {X : Type 0} (p : X → Bool) (xs : List X) → prefix_len p xs ≤ length xs
prefix_short p [] = omega arith
prefix_short {X} p (x ∷ xs) =
    let rest = prefix_short p xs in
    elim (p x) as (λ (b : Bool). cond b (1 + prefix_len p xs) 0 ≤ length (x ∷ xs)) [ true ↦ omega (arith, rest) | false ↦ omega arith ]

-- with a first one that passes, and with one that fails
pub passes : {X : Type 0} (p : X → Bool) (x : X) (xs : List X) → p x ≡ true → prefix_len p (x ∷ xs) ≡ suc (prefix_len p xs)
passes p x xs h = let e : ◌≡◌ {A = ℕ} (prefix_len p (x ∷ xs)) (1 + prefix_len p xs) = ap (λ (b : Bool). cond b (1 + prefix_len p xs) 0) h in omega (arith, e)

pub fails : {X : Type 0} (p : X → Bool) (x : X) (xs : List X) → p x ≡ false → prefix_len p (x ∷ xs) ≡ zero
fails p x xs h = ap (λ (b : Bool). cond b (1 + prefix_len p xs) 0) h

pub kept : {X : Type 0} (p : X → Bool) (x : X) (xs : List X) → p x ≡ true → filter p (x ∷ xs) ≡ x ∷ filter p xs
kept p x xs h = ap (λ (b : Bool). cond b (x ∷ filter p xs) (filter p xs)) h

pub left_out : {X : Type 0} (p : X → Bool) (x : X) (xs : List X) → p x ≡ false → filter p (x ∷ xs) ≡ filter p xs
left_out p x xs h = ap (λ (b : Bool). cond b (x ∷ filter p xs) (filter p xs)) h

turned : (x y : Value) → value_cmp x y ≡ Less → value_cmp y x ≡ Greater
turned x y h = values_total.antisymm y x ∙ ap ordering_reverse h

turned_back : (x y : Value) → value_cmp x y ≡ Greater → value_cmp y x ≡ Less
turned_back x y h = values_total.antisymm y x ∙ ap ordering_reverse h

above : (key x y : Value) (o : Ordering) → value_cmp x y ≡ o → is_gt o ≡ false → value_cmp key x ≡ Less → value_cmp key y ≡ Less
above key x y Less e h less = values_total.trans key x y less e
above key x y Equal e h less = sym (alike_right values_total x y key e) ∙ less
above key x y Greater e h less = absurd (cc)

-- none has a key that is lower than that of an entry before
none_behind : (key : Value) (x : IndexEntry) (xs : List IndexEntry) → AllByRecursion (λ later. entry_cmp x later ≡ Less) xs → value_cmp key x.key ≡ Less → filter (has_key key) xs ≡ []
none_behind key x [] up less = refl
none_behind key x (y ∷ ys) up less =
    let over : value_cmp y.key key ≡ Greater = turned key y.key (above key x.key y.key (value_cmp x.key y.key) refl (keys_rise x y up.0) less) in
    left_out (has_key key) y ys (ap is_eq over) ∙ none_behind key x ys up.1 less

least_behind : (key : Value) (x : IndexEntry) (xs : List IndexEntry) → AllByRecursion (λ later. entry_cmp x later ≡ Less) xs → is_lt (value_cmp x.key key) ≡ false
    → AllByRecursion (λ e. is_lt (value_cmp e.key key) ≡ false) xs
least_behind key x [] up least = tt
least_behind key x (y ∷ ys) up least = (
  elim (cases_Bool (is_lt (value_cmp y.key key))) [
    | inl less ↦ absurd (true≢false (sym (ap is_lt (lt_up values_total x.key y.key key (keys_rise x y up.0) (lt_is (value_cmp y.key key) less))) ∙ least))
    | inr more ↦ more
  ],
  least_behind key x ys up.1 least,
)

from_by : (key : Value) (x : IndexEntry) (xs : List IndexEntry) (o : Ordering) → value_cmp x.key key ≡ o → is_lt (value_cmp x.key key) ≡ false
    → AllByRecursion (λ later. entry_cmp x later ≡ Less) xs → take (prefix_len (up_to_key key) xs) xs ≡ filter (has_key key) xs
    → take (prefix_len (up_to_key key) (x ∷ xs)) (x ∷ xs) ≡ filter (has_key key) (x ∷ xs)
from_by key x xs Less e least up rest = absurd (true≢false (sym (ap is_lt e) ∙ least))
from_by key x xs Equal e least up rest =
    ap (λ (n : ℕ). take n (x ∷ xs)) (passes (up_to_key key) x xs (ap (λ (o : Ordering). not (is_gt o)) e))
    ∙ (ap (λ (others : List IndexEntry). x ∷ others) rest ∙ sym (kept (has_key key) x xs (ap is_eq e)))
from_by key x xs Greater e least up rest =
    ap (λ (n : ℕ). take n (x ∷ xs)) (fails (up_to_key key) x xs (ap (λ (o : Ordering). not (is_gt o)) e))
    ∙ sym (left_out (has_key key) x xs (ap is_eq e) ∙ none_behind key x xs up (turned_back x.key key e))

-- the entries of a key that is no higher than the first one's
from_first : (key : Value) (xs : List IndexEntry) → Ascends xs → AllByRecursion (λ e. is_lt (value_cmp e.key key) ≡ false) xs
    → take (prefix_len (up_to_key key) xs) xs ≡ filter (has_key key) xs
from_first key [] up least = refl
from_first key (x ∷ xs) up least = from_by key x xs (value_cmp x.key key) refl least.0 up.0 (from_first key xs up.1 least.1)

-- the entries of a key
pub found : (key : Value) (xs : List IndexEntry) → Ascends xs
    → take (prefix_len (up_to_key key) (drop (prefix_len (below_key key) xs) xs)) (drop (prefix_len (below_key key) xs) xs) ≡ filter (has_key key) xs
found key [] up = refl
found key (x ∷ xs) up =
    elim (cases_Bool (is_lt (value_cmp x.key key))) [
      | inl less ↦
          ap (λ (n : ℕ). take (prefix_len (up_to_key key) (drop n (x ∷ xs))) (drop n (x ∷ xs))) (passes (below_key key) x xs less)
          ∙ (found key xs up.1 ∙ sym (left_out (has_key key) x xs (ap is_eq (lt_is (value_cmp x.key key) less))))
      | inr least ↦
          ap (λ (n : ℕ). take (prefix_len (up_to_key key) (drop n (x ∷ xs))) (drop n (x ∷ xs))) (fails (below_key key) x xs least)
          ∙ from_first key (x ∷ xs) up (least, least_behind key x xs up.0 least)
    ]

-- what is left behind some entries ascends
pub ascends_behind : (n : ℕ) (xs : List IndexEntry) → Ascends xs → Ascends (drop n xs)
ascends_behind zero xs up = up
ascends_behind (suc n) [] up = tt
ascends_behind (suc n) (x ∷ xs) up = ascends_behind n xs up.1
