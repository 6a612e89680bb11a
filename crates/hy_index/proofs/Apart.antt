-- Entries whose keys are all below another key, or all above it.
use Rattle.std.proofs.Common.{◌≡◌, ℕ, zero, suc, ◌<◌, Bool, true, false, List, [], ◌∷◌, ◌++◌, length, get_or, refl, sym, ap, ◌∙◌, cond, arith}
use Rattle.std.specs.Prelude.{not, filter, Contains}
use Rattle.std.specs.List.{AllByRecursion}
use Rattle.std.specs.Ordering.{is_lt, is_eq, ordering_then, nat_cmp}
use Rattle.std.specs.declared.cmp.Ordering.{Ordering}
use Rattle.std.specs.declared.cmp.Ordering.TheVariants.{Less, Equal, Greater}
use Rattle.std.specs.Cmp.{tied_itself}
use Rattle.std.proofs.lemmas.Bool.{true≢false}
use Rattle.hy_value.specs.declared.Value.{Value}
use Rattle.hy_value.specs.Order.{value_cmp}
use Rattle.hy_value.specs.TotalOrder.{values_total}
use Rattle.hy_index.specs.Entries.{IndexEntry, entry_cmp, has_key, with_entry, without_entry}
use Rattle.hy_index.proofs.Prefixes.{kept, left_out}

-- the keys all stand so to a key
abbrev pub AllStand : Ordering → Value → List IndexEntry → Type 0
AllStand o key entries = AllByRecursion (λ e. value_cmp e.key key ≡ o) entries

pub each_so : {P Q : IndexEntry → Type 0} → ((e : IndexEntry) → P e → Q e) → (xs : List IndexEntry) → AllByRecursion P xs → AllByRecursion Q xs
each_so so [] all = tt
each_so so (x ∷ xs) all = (so x all.0, each_so so xs all.1)

-- an entry goes behind all that are below it
pub with_behind : (e : IndexEntry) (xs ys : List IndexEntry) → AllStand Less e.key xs → with_entry e (xs ++ ys) ≡ xs ++ with_entry e ys
with_behind e [] ys all = refl
with_behind e (x ∷ xs) ys all =
    ap (λ (o : Ordering). cond (is_lt (ordering_then o (nat_cmp x.pos e.pos))) (x ∷ with_entry e (xs ++ ys)) (e ∷ x ∷ (xs ++ ys))) all.0
    ∙ ap (λ (rest : List IndexEntry). x ∷ rest) (with_behind e xs ys all.1)

-- an entry goes before all that are above it
pub with_before : (e : IndexEntry) (xs ys : List IndexEntry) → AllStand Greater e.key ys → with_entry e (xs ++ ys) ≡ with_entry e xs ++ ys
with_before e [] [] all = refl
with_before e [] (y ∷ ys) all =
    ap (λ (o : Ordering). cond (is_lt (ordering_then o (nat_cmp y.pos e.pos))) (y ∷ with_entry e ys) (e ∷ y ∷ ys)) all.0
with_before e (x ∷ xs) ys all =
    elim (is_lt (entry_cmp x e)) as (λ (b : Bool). cond b (x ∷ with_entry e (xs ++ ys)) (e ∷ x ∷ (xs ++ ys))
    ≡ cond b (x ∷ with_entry e xs) (e ∷ x ∷ xs) ++ ys) [
      | true ↦ ap (λ (rest : List IndexEntry). x ∷ rest) (with_before e xs ys all)
      | false ↦ refl
    ]

then_apart : (o p : Ordering) → is_eq o ≡ false → is_eq (ordering_then o p) ≡ false
then_apart Less p apart = refl
then_apart Equal p apart = absurd (true≢false apart)
then_apart Greater p apart = refl

-- all of them are others
pub without_none : (o : Ordering) (e : IndexEntry) (xs : List IndexEntry) → is_eq o ≡ false → AllStand o e.key xs → without_entry e xs ≡ xs
without_none o e [] apart all = refl
without_none o e (x ∷ xs) apart all =
    kept (λ (y : IndexEntry). not (is_eq (entry_cmp y e))) x xs
    (ap not (ap (λ (r : Ordering). is_eq (ordering_then r (nat_cmp x.pos e.pos))) all.0 ∙ then_apart o (nat_cmp x.pos e.pos) apart))
    ∙ ap (λ (rest : List IndexEntry). x ∷ rest) (without_none o e xs apart all.1)

-- none of them has the key
pub find_none : (o : Ordering) (key : Value) (xs : List IndexEntry) → is_eq o ≡ false → AllStand o key xs → filter (has_key key) xs ≡ []
find_none o key [] apart all = refl
find_none o key (x ∷ xs) apart all = left_out (has_key key) x xs (ap is_eq all.0 ∙ apart) ∙ find_none o key xs apart all.1

-- the entry is none of them
pub not_in : (o : Ordering) (e : IndexEntry) (xs : List IndexEntry) → is_eq o ≡ false → AllStand o e.key xs → Contains xs e → ⊥
not_in o e xs apart all there = at xs all there.0 there.1 there.2
  where
    at : (ys : List IndexEntry) → AllStand o e.key ys → (k : ℕ) → k < length ys → get_or ys k e ≡ e → ⊥
    at [] a k l is = omega (arith, l)
    at (y ∷ ys) a zero l is =
        true≢false (sym (ap is_eq (ap (λ (x : IndexEntry). value_cmp x.key e.key) is ∙ tied_itself values_total e.key)) ∙ (ap is_eq a.0 ∙ apart))
    at (y ∷ ys) a (suc k) l is = at ys a.1 k (omega (arith, l)) is
