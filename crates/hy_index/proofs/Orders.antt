-- The order of entries.
use Rattle.std.proofs.Common.{◌≡◌, ℕ, zero, suc, ◌<◌, Bool, true, false, List, [], ◌∷◌, length, get_or, refl, sym, ap, ◌∙◌, arith, subst, inl, inr}
use Rattle.std.specs.Prelude.{not}
use Rattle.std.specs.List.{AllByRecursion}
use Rattle.std.specs.List.Sorted.{IsPartitionedBy}
use Rattle.std.specs.Cmp.{IsTotalOrder, then_total, on_total, upto, ranks}
use Rattle.std.specs.Ordering.{ordering_then, nat_cmp, is_lt, is_gt, MatchOrdering}
use Rattle.std.specs.declared.cmp.Ordering.{Ordering}
use Rattle.std.specs.declared.cmp.Ordering.TheVariants.{Less, Equal, Greater}
use Rattle.std.proofs.lemmas.Bool.{cases_eq}
use Rattle.std.proofs.lemmas.Cmp.{nat_cmp_total}
use Rattle.hy_value.specs.declared.Value.{Value}
use Rattle.hy_value.specs.Order.{value_cmp}
use Rattle.hy_value.specs.TotalOrder.{values_total, values_tie}
use Rattle.hy_index.specs.Entries.{IndexEntry, entry, order_of, entry_cmp, Ascends, below_key, up_to_key, below_entry}

pub entries_total : IsTotalOrder entry_cmp
entries_total = then_total (on_total (λ (e : IndexEntry). e.key) values_total) (on_total (λ (e : IndexEntry). e.pos) nat_cmp_total)

pub lt_is : (o : Ordering) → is_lt o ≡ true → o ≡ Less
lt_is Less h = refl
lt_is Equal h = absurd (cc)
lt_is Greater h = absurd (cc)

not_greater : (o p : Ordering) → ordering_then o p ≡ Less → is_gt o ≡ false
not_greater Less p h = refl
not_greater Equal p h = refl
not_greater Greater p h = absurd (cc)

-- the keys rise with the entries
pub keys_rise : (x y : IndexEntry) → entry_cmp x y ≡ Less → is_gt (value_cmp x.key y.key) ≡ false
keys_rise x y h = not_greater (value_cmp x.key y.key) _ h

lt_by : {K : Type 0} {R : K → K → Ordering} (o : IsTotalOrder R) (x y z : K) (r : Ordering) → R x y ≡ r → is_gt r ≡ false → R y z ≡ Less → R x z ≡ Less
lt_by o x y z Less e h l = o.trans x y z e l
lt_by o x y z Equal e h l = o.congr x y z e ∙ l
lt_by o x y z Greater e h l = absurd (cc)

-- what is no greater than something less is less
pub lt_up : {K : Type 0} {R : K → K → Ordering} (o : IsTotalOrder R) (x y z : K) → is_gt (R x y) ≡ false → R y z ≡ Less → R x z ≡ Less
lt_up {K} {R} o x y z h l = lt_by o x y z (R x y) refl h l

pub all_at : (P : IndexEntry → Type 0) (xs : List IndexEntry) (k : ℕ) (d : IndexEntry) → AllByRecursion P xs → k < length xs → P (get_or xs k d)
all_at P [] k d all l = absurd (omega arith)
all_at P (x ∷ xs) zero d all l = all.0
all_at P (x ∷ xs) (suc k) d all l = all_at P xs k d all.1 (omega arith)

at_two : (xs : List IndexEntry) (i j : ℕ) (d : IndexEntry) → Ascends xs → i < j → j < length xs → entry_cmp (get_or xs i d) (get_or xs j d) ≡ Less
at_two [] i j d up l m = absurd (omega arith)
at_two (x ∷ xs) i zero d up l m = absurd (omega arith)
at_two (x ∷ xs) zero (suc j) d up l m = all_at (λ later. entry_cmp x later ≡ Less) xs j d up.0 (omega arith)
at_two (x ∷ xs) (suc i) (suc j) d up l m = at_two xs i j d up.1 (omega arith) (omega arith)

-- where a test holds of an entry it holds of those before, if it passes down
parted : (p : IndexEntry → Bool) (xs : List IndexEntry) → Ascends xs → ((x y : IndexEntry) → entry_cmp x y ≡ Less → p y ≡ true → p x ≡ true) → IsPartitionedBy p xs
parted p xs up down i j d le l h =
    elim (cases_eq i j) [
      | inl same ↦ subst (λ (k : ℕ). p (get_or xs k d) ≡ true) (sym same) h
      | inr other ↦ down (get_or xs i d) (get_or xs j d) (at_two xs i j d up (omega (arith, le, other)) l) h
    ]

pub parted_entry : (key : Value) (pos : ℕ) (xs : List IndexEntry) → Ascends xs → IsPartitionedBy (below_entry key pos) xs
parted_entry key pos xs up =
    parted (below_entry key pos) xs up (λ x y less h. ap is_lt (entries_total.trans x y (entry key pos) less (lt_is (order_of y key pos) h)))

pub parted_below : (key : Value) (xs : List IndexEntry) → Ascends xs → IsPartitionedBy (below_key key) xs
parted_below key xs up =
    parted (below_key key) xs up (λ x y less h. ap is_lt (lt_up values_total x.key y.key key (keys_rise x y less) (lt_is (value_cmp y.key key) h)))

not_true : (b : Bool) → not b ≡ true → b ≡ false
not_true true h = absurd (cc)
not_true false h = refl

pub parted_up_to : (key : Value) (xs : List IndexEntry) → Ascends xs → IsPartitionedBy (up_to_key key) xs
parted_up_to key xs up =
    parted (up_to_key key) xs up (λ x y less h. ap not (upto values_total x.key y.key key (keys_rise x y less) (not_true (is_gt (value_cmp y.key key)) h)))

both_equal : (o p : Ordering) → ordering_then o p ≡ Equal → (o ≡ Equal) × (p ≡ Equal)
both_equal Less p h = absurd (cc)
both_equal Equal p h = (refl, h)
both_equal Greater p h = absurd (cc)

positions_tie : (m n : ℕ) → nat_cmp m n ≡ Equal → m ≡ n
positions_tie m n h = subst (λ (o : Ordering). MatchOrdering o (m < n) (m ≡ n) (n < m)) h (ranks m n)

-- entries that are not apart are one
pub entry_ties : (x y : IndexEntry) → entry_cmp x y ≡ Equal → x ≡ y
entry_ties x y h =
    let parts = both_equal (value_cmp x.key y.key) (nat_cmp x.pos y.pos) h in
    let keys : x.key ≡ y.key = values_tie x.key y.key parts.0 in
    let places : x.pos ≡ y.pos = positions_tie x.pos y.pos parts.1 in
    ap (λ (p : Value × ℕ). entry p.0 p.1) (λ i. (keys i, places i))
