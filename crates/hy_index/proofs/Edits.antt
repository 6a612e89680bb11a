-- Entries that come and go.
use Rattle.std.proofs.Common.{◌≡◌, ℕ, zero, suc, ◌<◌, Bool, true, false, List, [], ◌∷◌, length, get_or, refl, sym, ap, ◌∙◌, cond, arith, inl, inr, subst}
use Rattle.std.specs.Prelude.{not, filter, Contains}
use Rattle.std.specs.List.{prefix_len, AllByRecursion, insert, remove}
use Rattle.std.specs.Ordering.{is_lt, is_eq, is_gt, ordering_reverse}
use Rattle.std.specs.declared.cmp.Ordering.{Ordering}
use Rattle.std.specs.declared.cmp.Ordering.TheVariants.{Less, Equal, Greater}
use Rattle.std.specs.Cmp.{tied_itself}
use Rattle.std.proofs.lemmas.Bool.{cases_Bool, true≢false}
use Rattle.hy_index.specs.Entries.{IndexEntry, entry_cmp, Ascends, below_entry, with_entry, without_entry}
use Rattle.hy_index.proofs.Orders.{entries_total, all_at, entry_ties}
use Rattle.hy_index.proofs.Prefixes.{passes, fails, kept, left_out}

-- an entry that is put behind the lower ones is where it belongs
pub put_in : (e : IndexEntry) (xs : List IndexEntry) → insert xs (prefix_len (below_entry e.key e.pos) xs) e ≡ with_entry e xs
put_in e [] = refl
put_in e (x ∷ xs) =
    elim (cases_Bool (is_lt (entry_cmp x e))) [
      | inl less ↦
          ap (λ (n : ℕ). insert (x ∷ xs) n e) (passes (below_entry e.key e.pos) x xs less)
          ∙ (ap (λ (rest : List IndexEntry). x ∷ rest) (put_in e xs)
          ∙ sym (ap (λ (b : Bool). cond b (x ∷ with_entry e xs) (e ∷ x ∷ xs)) less))
      | inr more ↦
          ap (λ (n : ℕ). insert (x ∷ xs) n e) (fails (below_entry e.key e.pos) x xs more)
          ∙ sym (ap (λ (b : Bool). cond b (x ∷ with_entry e xs) (e ∷ x ∷ xs)) more)
    ]

turned_back : (x y : IndexEntry) → entry_cmp x y ≡ Greater → entry_cmp y x ≡ Less
turned_back x y h = entries_total.antisymm y x ∙ ap ordering_reverse h

all_behind : (x y : IndexEntry) (xs : List IndexEntry) → entry_cmp x y ≡ Less → AllByRecursion (λ later. entry_cmp y later ≡ Less) xs → AllByRecursion (λ later. entry_cmp x later ≡ Less) xs
all_behind x y [] less all = tt
all_behind x y (z ∷ zs) less all = (entries_total.trans x y z less all.0, all_behind x y zs less all.1)

all_with : (x e : IndexEntry) (xs : List IndexEntry) → entry_cmp x e ≡ Less → AllByRecursion (λ later. entry_cmp x later ≡ Less) xs → AllByRecursion (λ later. entry_cmp x later ≡ Less) (with_entry e xs)
all_with x e [] less all = (less, tt)
all_with x e (y ∷ ys) less all =
    elim (is_lt (entry_cmp y e)) as (λ (b : Bool). AllByRecursion (λ later. entry_cmp x later ≡ Less) (cond b (y ∷ with_entry e ys) (e ∷ y ∷ ys))) [
      | true ↦ (all.0, all_with x e ys less all.1)
      | false ↦ (less, (all.0, all.1))
    ]

not_behind : (e x : IndexEntry) (xs : List IndexEntry) → (Contains (x ∷ xs) e → ⊥) → Contains xs e → ⊥
not_behind e x xs absent there = absent (suc there.0, omega (arith, there.1), there.2)

with_by : (e x : IndexEntry) (xs : List IndexEntry) (o : Ordering) → entry_cmp x e ≡ o → Ascends (x ∷ xs) → (Contains (x ∷ xs) e → ⊥) → Ascends (with_entry e xs)
    → Ascends (with_entry e (x ∷ xs))
with_by e x xs Less h up absent rest =
    subst (λ (b : Bool). Ascends (cond b (x ∷ with_entry e xs) (e ∷ x ∷ xs))) (sym (ap is_lt h)) (all_with x e xs h up.0, rest)
with_by e x xs Equal h up absent rest = absurd (absent (zero, omega arith, entry_ties x e h))
with_by e x xs Greater h up absent rest =
    let less = turned_back x e h in
    subst (λ (b : Bool). Ascends (cond b (x ∷ with_entry e xs) (e ∷ x ∷ xs))) (sym (ap is_lt h)) ((less, all_behind e x xs less up.0), (up.0, up.1))

-- with an entry that was not there the others still ascend
pub ascends_with : (e : IndexEntry) (xs : List IndexEntry) → Ascends xs → (Contains xs e → ⊥) → Ascends (with_entry e xs)
ascends_with e [] up absent = (tt, tt)
ascends_with e (x ∷ xs) up absent = with_by e x xs (entry_cmp x e) refl up absent (ascends_with e xs up.1 (not_behind e x xs absent))

pub all_filter : (P : IndexEntry → Type 0) (p : IndexEntry → Bool) (xs : List IndexEntry) → AllByRecursion P xs → AllByRecursion P (filter p xs)
all_filter P p [] all = tt
all_filter P p (x ∷ xs) all =
    elim (p x) as (λ (b : Bool). AllByRecursion P (cond b (x ∷ filter p xs) (filter p xs))) [ true ↦ (all.0, all_filter P p xs all.1) | false ↦ all_filter P p xs all.1 ]

-- some of ascending entries ascend
pub ascends_some : (p : IndexEntry → Bool) (xs : List IndexEntry) → Ascends xs → Ascends (filter p xs)
ascends_some p [] up = tt
ascends_some p (x ∷ xs) up =
    elim (p x) as (λ (b : Bool). Ascends (cond b (x ∷ filter p xs) (filter p xs))) [
      | true ↦ (all_filter (λ later. entry_cmp x later ≡ Less) p xs up.0, ascends_some p xs up.1)
      | false ↦ ascends_some p xs up.1
    ]

all_others : (e : IndexEntry) (xs : List IndexEntry) → AllByRecursion (λ later. entry_cmp e later ≡ Less) xs → filter (λ x. not (is_eq (entry_cmp x e))) xs ≡ xs
all_others e [] all = refl
all_others e (x ∷ xs) all =
    let over : entry_cmp x e ≡ Greater = entries_total.antisymm x e ∙ ap ordering_reverse all.0 in
    kept (λ x. not (is_eq (entry_cmp x e))) x xs (ap (λ (o : Ordering). not (is_eq o)) over) ∙ ap (λ (rest : List IndexEntry). x ∷ rest) (all_others e xs all.1)

-- what is below the first one is not there
nowhere : (e x : IndexEntry) (xs : List IndexEntry) → AllByRecursion (λ later. entry_cmp x later ≡ Less) xs → entry_cmp x e ≡ Greater
    → (k : ℕ) → k < suc (length xs) → get_or (x ∷ xs) k e ≡ e → ⊥
nowhere e x xs up over zero l at =
    let same : entry_cmp x e ≡ Equal = ap (λ (y : IndexEntry). entry_cmp y e) at ∙ tied_itself entries_total e in
    true≢false (sym (ap is_gt over) ∙ ap is_gt same)
nowhere e x xs up over (suc k) l at =
    let less : entry_cmp x e ≡ Less = ap (entry_cmp x) (sym at) ∙ all_at (λ later. entry_cmp x later ≡ Less) xs k e up (omega arith) in
    true≢false (sym (ap is_gt over) ∙ ap is_gt less)

-- an entry stands behind the lower ones, and without it the others are left
pub record TakenOut (e : IndexEntry) (xs : List IndexEntry) : Type 0 where
  pub within : prefix_len (below_entry e.key e.pos) xs < length xs
  pub left : remove xs (prefix_len (below_entry e.key e.pos) xs) ≡ without_entry e xs

behind : (e x : IndexEntry) (xs : List IndexEntry) → entry_cmp x e ≡ Less → (k : ℕ) → k < suc (length xs) → get_or (x ∷ xs) k e ≡ e → Contains xs e
behind e x xs less zero l at =
    absurd (true≢false (sym (ap is_lt (sym (ap (λ (y : IndexEntry). entry_cmp y e) at) ∙ less)) ∙ ap is_lt (tied_itself entries_total e)))
behind e x xs less (suc k) l at = (k, omega arith, at)

out_by : (e x : IndexEntry) (xs : List IndexEntry) (o : Ordering) → entry_cmp x e ≡ o → Ascends (x ∷ xs) → Contains (x ∷ xs) e → (Contains xs e → TakenOut e xs) → TakenOut e (x ∷ xs)
out_by e x xs Less h up there rest =
    let n = passes (below_entry e.key e.pos) x xs (ap is_lt h) in
    let out = rest (behind e x xs h there.0 there.1 there.2) in
    let within = out.within in
    record {
      within = omega (arith, n, within);
      left = ap (remove (x ∷ xs)) n ∙ (ap (λ (ys : List IndexEntry). x ∷ ys) out.left ∙ sym (kept (λ y. not (is_eq (entry_cmp y e))) x xs (ap (λ (o : Ordering). not (is_eq o)) h)));
    }
out_by e x xs Equal h up there rest =
    let same : x ≡ e = entry_ties x e h in
    let n = fails (below_entry e.key e.pos) x xs (ap is_lt h) in
    record {
      within = omega (arith, n);
      left = ap (remove (x ∷ xs)) n
          ∙ sym (left_out (λ y. not (is_eq (entry_cmp y e))) x xs (ap (λ (o : Ordering). not (is_eq o)) h)
          ∙ all_others e xs (subst (λ (y : IndexEntry). AllByRecursion (λ later. entry_cmp y later ≡ Less) xs) same up.0));
    }
out_by e x xs Greater h up there rest = absurd (nowhere e x xs up.0 h there.0 there.1 there.2)

pub taken_out : (e : IndexEntry) (xs : List IndexEntry) → Ascends xs → Contains xs e → TakenOut e xs
taken_out e [] up there = absurd (let l = there.1 in omega arith)
taken_out e (x ∷ xs) up there = out_by e x xs (entry_cmp x e) refl up there (λ inside. taken_out e xs up.1 inside)
