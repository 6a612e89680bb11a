-- Which entries are there when one comes or goes.
use Rattle.std.proofs.Common.{◌≡◌, ◌≢◌, ◌⊎◌, ℕ, zero, suc, ◌<◌, Bool, true, false, List, [], ◌∷◌, length, get_or, refl, sym, ap, ◌∙◌, cond, arith, inl, inr, subst}
use Rattle.std.specs.Prelude.{not, filter, Contains}
use Rattle.std.specs.Ordering.{is_lt, is_eq}
use Rattle.std.specs.declared.cmp.Ordering.{Ordering}
use Rattle.std.specs.declared.cmp.Ordering.TheVariants.{Less, Equal, Greater}
use Rattle.std.specs.Cmp.{tied_itself}
use Rattle.std.proofs.lemmas.Bool.{true≢false}
use Rattle.hy_value.specs.declared.Value.{Value}
use Rattle.hy_value.specs.Order.{value_cmp}
use Rattle.hy_value.specs.TotalOrder.{values_total, values_tie}
use Rattle.hy_index.specs.Entries.{IndexEntry, entry_cmp, with_entry, has_key}
use Rattle.hy_index.specs.Members.{AddsOne, TakesOne, FindsKeys}
use Rattle.hy_index.proofs.Orders.{entries_total, entry_ties}

first : {A : Type 0} (x : A) (xs : List A) → Contains (x ∷ xs) x
first x xs = (zero, omega arith, refl)

pub behind : {A : Type 0} (x y : A) (xs : List A) → Contains xs y → Contains (x ∷ xs) y
behind x y xs c = (suc c.0, omega (arith, c.1), c.2)

pub here_or : {A : Type 0} (x y : A) (xs : List A) → Contains (x ∷ xs) y → (x ≡ y) ⊎ Contains xs y
here_or {A} x y xs c = at c.0 c.1 c.2
  where
    at : (k : ℕ) → k < suc (length xs) → get_or (x ∷ xs) k y ≡ y → (x ≡ y) ⊎ Contains xs y
    at zero l e = inl e
    at (suc k) l e = inr (k, omega arith, e)

here_by : {A : Type 0} (x y : A) (xs : List A) → x ≡ y → Contains (x ∷ xs) y
here_by {A} x y xs e = subst (λ (z : A). Contains (x ∷ xs) z) e (first x xs)

further : (e x y : IndexEntry) (xs : List IndexEntry) → (y ≡ e) ⊎ Contains xs y → (y ≡ e) ⊎ Contains (x ∷ xs) y
further e x y xs (inl same) = inl same
further e x y xs (inr there) = inr (behind x y xs there)

in_with : (e y : IndexEntry) (xs : List IndexEntry) → Contains (with_entry e xs) y → (y ≡ e) ⊎ Contains xs y
in_with e y [] c = elim (here_or e y [] c) [ inl same ↦ inl (sym same) | inr there ↦ inr there ]
in_with e y (x ∷ xs) c =
    (elim (is_lt (entry_cmp x e)) as (λ (b : Bool). Contains (cond b (x ∷ with_entry e xs) (e ∷ x ∷ xs)) y → (y ≡ e) ⊎ Contains (x ∷ xs) y) [
      | true ↦ λ d. elim (here_or x y (with_entry e xs) d) [ inl same ↦ inr (here_by x y xs same) | inr there ↦ further e x y xs (in_with e y xs there) ]
      | false ↦ λ d. elim (here_or e y (x ∷ xs) d) [ inl same ↦ inl (sym same) | inr there ↦ inr there ]
    ]) c

to_with : (e y : IndexEntry) (xs : List IndexEntry) → (y ≡ e) ⊎ Contains xs y → Contains (with_entry e xs) y
to_with e y [] w = elim w [ inl same ↦ here_by e y [] (sym same) | inr there ↦ behind e y [] there ]
to_with e y (x ∷ xs) w =
    elim (is_lt (entry_cmp x e)) as (λ (b : Bool). Contains (cond b (x ∷ with_entry e xs) (e ∷ x ∷ xs)) y) [
      | true ↦ elim w [
        | inl same ↦ behind x y (with_entry e xs) (to_with e y xs (inl same))
        | inr there ↦ elim (here_or x y xs there) [ inl here ↦ here_by x y (with_entry e xs) here | inr later ↦ behind x y (with_entry e xs) (to_with e y xs (inr later)) ]
      ]
      | false ↦ elim w [ inl same ↦ here_by e y (x ∷ xs) (sym same) | inr there ↦ behind e y (x ∷ xs) there ]
    ]

in_some : (p : IndexEntry → Bool) (y : IndexEntry) (xs : List IndexEntry) → Contains (filter p xs) y → Contains xs y × (p y ≡ true)
in_some p y [] c = absurd (let l = c.1 in omega arith)
in_some p y (x ∷ xs) c = by_test (p x) refl (subst (λ (zs : List IndexEntry). Contains zs y) refl c) (λ d. in_some p y xs d)
  where
    by_test : (b : Bool) → p x ≡ b → Contains (cond (p x) (x ∷ filter p xs) (filter p xs)) y → (Contains (filter p xs) y → Contains xs y × (p y ≡ true))
        → Contains (x ∷ xs) y × (p y ≡ true)
    by_test true e d rest =
        elim (here_or x y (filter p xs) (subst (λ (b : Bool). Contains (cond b (x ∷ filter p xs) (filter p xs)) y) e d)) [
          | inl same ↦ (here_by x y xs same, ap p (sym same) ∙ e)
          | inr there ↦ let r = rest there in (behind x y xs r.0, r.1)
        ]
    by_test false e d rest = let r = rest (subst (λ (b : Bool). Contains (cond b (x ∷ filter p xs) (filter p xs)) y) e d) in (behind x y xs r.0, r.1)

to_some : (p : IndexEntry → Bool) (y : IndexEntry) (xs : List IndexEntry) → Contains xs y → p y ≡ true → Contains (filter p xs) y
to_some p y [] c h = absurd (let l = c.1 in omega arith)
to_some p y (x ∷ xs) c h =
    elim (here_or x y xs c) [
      | inl same ↦ subst (λ (b : Bool). Contains (cond b (x ∷ filter p xs) (filter p xs)) y) (sym (ap p same ∙ h)) (here_by x y (filter p xs) same)
      | inr there ↦
          let rest = to_some p y xs there h in
          elim (p x) as (λ (b : Bool). Contains (cond b (x ∷ filter p xs) (filter p xs)) y) [ true ↦ behind x y (filter p xs) rest | false ↦ rest ]
    ]

eq_is : (o : Ordering) → is_eq o ≡ true → o ≡ Equal
eq_is Less h = absurd (cc)
eq_is Equal h = refl
eq_is Greater h = absurd (cc)

not_eq : (o : Ordering) → (o ≢ Equal) → not (is_eq o) ≡ true
not_eq Less h = refl
not_eq Equal h = absurd (h refl)
not_eq Greater h = refl

pub adds_one : AddsOne
adds_one added other entries = (in_with added other entries, to_with added other entries)

pub takes_one : TakesOne
takes_one removed other entries = (
  λ c.
      let inside = in_some (λ e. not (is_eq (entry_cmp e removed))) other entries c in (
        inside.0,
        λ same.
            true≢false (sym inside.1 ∙ ap (λ (o : Ordering). not (is_eq o)) (ap (λ (e : IndexEntry). entry_cmp e removed) same ∙ tied_itself entries_total removed)),
      ),
  λ w. to_some (λ e. not (is_eq (entry_cmp e removed))) other entries w.0 (not_eq (entry_cmp other removed) (λ tie. w.1 (entry_ties other removed tie))),
)

pub finds_keys : FindsKeys
finds_keys key other entries = (
  λ c. let inside = in_some (has_key key) other entries c in (inside.0, values_tie other.key key (eq_is (value_cmp other.key key) inside.1)),
  λ w. to_some (has_key key) other entries w.0 (ap is_eq (ap (λ (v : Value). value_cmp v key) w.1 ∙ tied_itself values_total key)),
)
