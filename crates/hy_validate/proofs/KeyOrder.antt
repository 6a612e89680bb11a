-- The order of keyed records, and where those of a key stand.
use Rattle.std.proofs.Common.{◌≡◌, ◌⊎◌, ℕ, ◌+◌, ◌-◌, ◌<◌, ◌≤◌, List, length, get_or, drop, refl, sym, ap, ◌∙◌, inl, inr, arith, subst, length-drop}
use Rattle.std.specs.Prelude.{Bool, true, false, All, Some, None}
use Rattle.std.specs.Cmp.{IsTotalOrder, IsStrictWeakOrder, then_total, on_total}
use Rattle.std.specs.Ordering.{nat_cmp, ordering_then, ordering_index, is_lt, is_eq}
use Rattle.std.specs.List.Sorted.{IsSorted, IsPartitionedBy, IsPartitionPoint, IsNonDecreasingBy}
use Rattle.std.specs.declared.cmp.Ordering.{Ordering}
use Rattle.std.specs.declared.cmp.Ordering.TheVariants.{Less, Equal, Greater}
use Rattle.std.proofs.lemmas.Bool.{both_ways, cases_lt}
use Rattle.std.proofs.lemmas.Cmp.{nat_cmp_total, ranked, by_ranked, tied_back}
use Rattle.std.proofs.lemmas.List.{get_or-drop, get_or_default}
use Rattle.std.proofs.lemmas.List.Sorted.{ranks_by, sorted_far, searchable_from_sorted}
use Rattle.hy_value.specs.Refs.{referred}
use Rattle.hy_value.specs.TotalOrder.{values_total}
use Rattle.hy_validate.specs.declared.keys.Key.{Key}
use Rattle.hy_validate.specs.declared.keys.Keyed.{Keyed}
use Rattle.hy_validate.specs.Keys.{key_cmp, keyed_cmp, is_below, HasTied}
use Rattle.hy_validate.specs.TreeHits.{Finds}
use Rattle.hy_validate.proofs.Least.{finds_none}

keys_total : IsTotalOrder key_cmp
keys_total =
    then_total (then_total (on_total (λ (k : Key). k.table) nat_cmp_total) (on_total (λ (k : Key). k.column) nat_cmp_total))
    (on_total (λ (k : Key). referred k.value) values_total)

keyed_total : IsTotalOrder keyed_cmp
keyed_total = then_total (on_total (λ (p : Keyed). p.key) keys_total) (on_total (λ (p : Keyed). p.number) nat_cmp_total)

-- the order that a sort asks for
pub keyed_rank : IsStrictWeakOrder (λ (p q : Keyed). is_lt (keyed_cmp p q))
keyed_rank = ranks_by keyed_total (λ p. p)

no_less_first : (o p : Ordering) → is_lt (ordering_then o p) ≡ false → is_lt o ≡ false
no_less_first Less p h = h
no_less_first Equal p h = refl
no_less_first Greater p h = refl

no_less_last : (o p : Ordering) → is_lt (ordering_then o p) ≡ false → o ≡ Equal → is_lt p ≡ false
no_less_last Less p h e = cc
no_less_last Equal p h e = h
no_less_last Greater p h e = cc

-- how the keys stand to one rises along sorted records
keys_rise : (key : Key) (places : List Keyed) → IsSorted keyed_cmp places → IsNonDecreasingBy (λ (p : Keyed). ordering_index (key_cmp p.key key)) places
keys_rise key places up =
    searchable_from_sorted keys_total (λ (p : Keyed). p.key) places key
    (λ k d l m. no_less_first (key_cmp (get_or places (k + 1) d).key (get_or places k d).key) _ (up k d l m))

lower_rank : (o p : Ordering) → ordering_index o ≤ ordering_index p → is_lt p ≡ true → is_lt o ≡ true
lower_rank Less p l h = refl
lower_rank Equal Less l h = absurd (omega arith)
lower_rank Equal Equal l h = h
lower_rank Equal Greater l h = h
lower_rank Greater Less l h = absurd (omega arith)
lower_rank Greater Equal l h = h
lower_rank Greater Greater l h = h

-- those of lower keys stand in front
pub keys_parted : (key : Key) (places : List Keyed) → IsSorted keyed_cmp places → IsPartitionedBy (is_below key) places
keys_parted key places up i j d l m h =
    lower_rank (key_cmp (get_or places i d).key key) (key_cmp (get_or places j d).key key) (keys_rise key places up i j d l m) h

-- records that are sorted are so from any one on
pub sorted_behind : (n : ℕ) (places : List Keyed) → IsSorted keyed_cmp places → IsSorted keyed_cmp (drop n places)
sorted_behind n places up k d l m =
    let len = length-drop n places in
    let e : n + (k + 1) ≡ n + k + 1 = omega arith in
    let later : get_or (drop n places) (k + 1) d ≡ get_or places (n + k + 1) d = get_or-drop n places (k + 1) d ∙ ap (λ i. get_or places i d) e in
    subst (λ (p : Keyed). is_lt (keyed_cmp p (get_or (drop n places) k d)) ≡ false) (sym later)
    (subst (λ (p : Keyed). is_lt (keyed_cmp (get_or places (n + k + 1) d) p) ≡ false) (sym (get_or-drop n places k d))
    (up (n + k) d (omega arith) (omega arith)))

-- from where a key can begin on, its records are all there
pub tied_behind : (key : Key) (places : List Keyed) (n number : ℕ) → n ≤ length places
    → IsPartitionPoint (λ p. is_below key p ≡ true) (λ p. is_below key p ≡ false) places n
    → HasTied key places number → HasTied key (drop n places) number
tied_behind key places n number within point a = by (cases_lt a.0 n)
  where
    by : (a.0 < n) ⊎ (n ≤ a.0) → HasTied key (drop n places) number
    by (inl below) =
        let less : is_below key (get_or places a.0 a.1) ≡ true = point.0 a.0 a.1 (omega arith) below in
        absurd (both_ways (is_below key a.1) (ap is_lt a.4.0) (subst (λ p. is_below key p ≡ true) a.3 less))
    by (inr up) =
        let len = length-drop n places in
        let l = a.2 in
        let e : n + (a.0 - n) ≡ a.0 = omega arith in
        (a.0 - n, a.1, omega arith, get_or-drop n places (a.0 - n) a.1 ∙ (ap (λ i. get_or places i a.1) e ∙ a.3), a.4)

not_less : (m n : ℕ) → is_lt (nat_cmp m n) ≡ false → n ≤ m
not_less m n h =
    by_ranked (m < n) (m ≡ n) (n < m) (nat_cmp m n) (ranked m n (nat_cmp m n) refl)
    (λ e l. absurd (both_ways (is_lt (nat_cmp m n)) h (ap is_lt e))) (λ e s. omega arith) (λ e g. omega arith)

-- the numbers of records of one key rise
numbers_rise : (key : Key) (places : List Keyed) (i j : ℕ) (d : Keyed) → IsSorted keyed_cmp places → i ≤ j → j < length places
    → key_cmp (get_or places i d).key key ≡ Equal → key_cmp (get_or places j d).key key ≡ Equal → (get_or places i d).number ≤ (get_or places j d).number
numbers_rise key places i j d up l m e f =
    not_less (get_or places j d).number (get_or places i d).number
    (no_less_last (key_cmp (get_or places j d).key (get_or places i d).key) _
    (sorted_far (λ (p q : Keyed). is_lt (keyed_cmp p q)) keyed_rank places up i j d l m)
    (keys_total.congr (get_or places j d).key key (get_or places i d).key f ∙ tied_back keys_total (get_or places i d).key key e))

higher_rank : (o p : Ordering) → ordering_index o ≤ ordering_index p → is_lt o ≡ false → is_eq o ≡ false → p ≡ Equal → ⊥
higher_rank Less p l h g e = both_ways true h refl
higher_rank Equal p l h g e = both_ways true g refl
higher_rank Greater p l h g e = let f = ap ordering_index e in omega arith

-- records in front that are hit by nothing, and then one of a higher key
pub none_tied : (key : Key) (places : List Keyed) (is_hit : ℕ → Bool) (i : ℕ) → IsSorted keyed_cmp places
    → All (λ p. is_below key p ≡ false) places → i ≤ length places
    → ((k : ℕ) (d : Keyed) → k < i → is_hit (get_or places k d).number ≡ false)
    → (i < length places → (d : Keyed) → is_eq (key_cmp (get_or places i d).key key) ≡ false)
    → Finds is_hit (HasTied key places) None
none_tied key places is_hit i up least within missed other = finds_none is_hit (HasTied key places) (λ n a t. by n a t (cases_lt a.0 i))
  where
    by : (n : ℕ) (a : HasTied key places n) → is_hit n ≡ true → (a.0 < i) ⊎ (i ≤ a.0) → ⊥
    by n a t (inl below) =
        let is : (get_or places a.0 a.1).number ≡ n = ap (λ (p : Keyed). p.number) a.3 ∙ a.4.1 in
        both_ways (is_hit (get_or places a.0 a.1).number) (missed a.0 a.1 below) (ap is_hit is ∙ t)
    by n a t (inr from) =
        let m = a.2 in
        let in' : i < length places = omega arith in
        higher_rank (key_cmp (get_or places i a.1).key key) (key_cmp (get_or places a.0 a.1).key key) (keys_rise key places up i a.0 a.1 from m)
        (least i a.1 in') (other in' a.1) (ap (λ (p : Keyed). key_cmp p.key key) a.3 ∙ a.4.0)

-- the first record of a key that is hit
pub first_tied : (key : Key) (places : List Keyed) (is_hit : ℕ → Bool) (i : ℕ) (place : Keyed) → IsSorted keyed_cmp places
    → i < length places → get_or places i place ≡ place → key_cmp place.key key ≡ Equal
    → ((k : ℕ) (d : Keyed) → k < i → is_hit (get_or places k d).number ≡ false) → is_hit place.number ≡ true
    → Finds is_hit (HasTied key places) (Some place.number)
first_tied key places is_hit i place up within is tie missed t = record { hit = t; least = λ n a u. by n a u (cases_lt a.0 i) }
  where
    by : (n : ℕ) (a : HasTied key places n) → is_hit n ≡ true → (a.0 < i) ⊎ (i ≤ a.0) → place.number ≤ n
    by n a u (inl below) =
        let same : (get_or places a.0 a.1).number ≡ n = ap (λ (p : Keyed). p.number) a.3 ∙ a.4.1 in
        absurd (both_ways (is_hit (get_or places a.0 a.1).number) (missed a.0 a.1 below) (ap is_hit same ∙ u))
    by n a u (inr from) =
        let here : get_or places i a.1 ≡ place = get_or_default places i a.1 place within ∙ is in
        let rise = numbers_rise key places i a.0 a.1 up from a.2 (ap (λ (p : Keyed). key_cmp p.key key) here ∙ tie)
        (ap (λ (p : Keyed). key_cmp p.key key) a.3 ∙ a.4.0) in
        let f : (get_or places i a.1).number ≡ place.number = ap (λ (p : Keyed). p.number) here in
        let g : (get_or places a.0 a.1).number ≡ n = ap (λ (p : Keyed). p.number) a.3 ∙ a.4.1 in
        omega arith
