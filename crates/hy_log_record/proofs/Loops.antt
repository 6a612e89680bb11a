-- Reading values and changes one after the other, as a loop does.
use Rattle.std.proofs.Common.{◌≡◌, ℕ, suc, ◌-◌, ◌+◌, ◌≤◌, ◌<◌, List, [], ◌∷◌, ◌++◌, length, get_or}
use Rattle.std.proofs.Common.{drop, Option, Some, None, refl, sym, ap, ◌∙◌, append_assoc, arith}
use Rattle.std.proofs.lemmas.List.{append-nil, drop_more, drop_all}
use Rattle.hy_value.specs.declared.Kind.{Kind}
use Rattle.hy_value.specs.declared.Value.{Value}
use Rattle.hy_value.specs.declared.change.Change.{Change}
use Rattle.hy_log_record.specs.declared.HeldTable.{HeldTable}
use Rattle.hy_log_record.specs.declared.BodyError.{BodyError}
use Rattle.hy_log_record.specs.declared.BodyError.TheVariants.{Malformed, OutOfMemory}
use Rattle.hy_log_record.specs.Reading.{◌>>=◌, Fails, value_at, values_at, change_at, changes_at}

-- what was read before, and what is still read
abbrev pub with_front : {A : Type 0} → List A → Option (List A × List ℕ) → Option (List A × List ℕ)
with_front front read = read >>= λ x. Some (front ++ x.0, x.1)

regroup : {A : Type 0} (front : List A) (one : A) (read : Option (List A × List ℕ))
    → with_front front (read >>= λ x. Some (one ∷ x.0, x.1)) ≡ with_front (front ++ one ∷ []) read
regroup {A} front one (Some x) = ap (λ (ys : List A). Some (ys, x.1)) (sym (append_assoc front (one ∷ []) x.0))
regroup front one None = refl

module _ (kinds : List Kind) (total : Option (List Value × List ℕ)) where
  pub values_go_on : (front : List Value) (i : ℕ) (kind d : Kind) (bytes : List ℕ) (v : Value) (after : List ℕ) → i < length kinds
      → kind ≡ get_or kinds i d → value_at kind bytes ≡ Some (v, after)
      → with_front front (values_at (drop i kinds) bytes) ≡ total → with_front (front ++ v ∷ []) (values_at (drop (i + 1) kinds) after) ≡ total
  unfolding values_at
  values_go_on front i kind d bytes v after lt is h so_far =
      let at : value_at (get_or kinds i d) bytes ≡ Some (v, after) = ap (λ (k : Kind). value_at k bytes) (sym is) ∙ h in
      let one : with_front front (values_at (drop i kinds) bytes) ≡ with_front (front ++ v ∷ []) (values_at (drop (i + 1) kinds) after) =
      rw (drop_more kinds i d lt, at) (regroup front v (values_at (drop (i + 1) kinds) after)) in
      sym one ∙ so_far

  pub values_end : (e : BodyError) (front : List Value) (i : ℕ) (kind d : Kind) (bytes : List ℕ) → i < length kinds → kind ≡ get_or kinds i d
      → Fails e (value_at kind bytes)
      → with_front front (values_at (drop i kinds) bytes) ≡ total → Fails e total
  unfolding values_at
  values_end OutOfMemory front i kind d bytes lt is h so_far = tt
  values_end Malformed front i kind d bytes lt is h so_far =
      let at : value_at (get_or kinds i d) bytes ≡ None = ap (λ (k : Kind). value_at k bytes) (sym is) ∙ h in
      let one : with_front front (values_at (drop i kinds) bytes) ≡ None = rw (drop_more kinds i d lt, at) refl in
      sym so_far ∙ one

  pub values_done : (front : List Value) (i : ℕ) (bytes : List ℕ) → length kinds ≤ i → with_front front (values_at (drop i kinds) bytes) ≡ total
      → total ≡ Some (front, bytes)
  unfolding values_at
  values_done front i bytes le so_far =
      let one : with_front front (values_at (drop i kinds) bytes) ≡ Some (front, bytes) =
      rw (drop_all i kinds le) (ap (λ (vs : List Value). Some (vs, bytes)) (append-nil front)) in
      sym so_far ∙ one

module _ (tables : List HeldTable) (count : ℕ) (total : Option (List Change × List ℕ)) where
  pub changes_go_on : (front : List Change) (i : ℕ) (bytes : List ℕ) (c : Change) (after : List ℕ) → i < count → change_at tables bytes ≡ Some (c, after)
      → with_front front (changes_at tables (count - i) bytes) ≡ total → with_front (front ++ c ∷ []) (changes_at tables (count - (i + 1)) after) ≡ total
  unfolding changes_at
  changes_go_on front i bytes c after lt h so_far =
      let k : count - i ≡ suc (count - (i + 1)) = omega arith in
      let one : with_front front (changes_at tables (count - i) bytes) ≡ with_front (front ++ c ∷ []) (changes_at tables (count - (i + 1)) after) =
      rw (k, h) (regroup front c (changes_at tables (count - (i + 1)) after)) in
      sym one ∙ so_far

  pub changes_end : (e : BodyError) (front : List Change) (i : ℕ) (bytes : List ℕ) → i < count → Fails e (change_at tables bytes)
      → with_front front (changes_at tables (count - i) bytes) ≡ total → Fails e total
  unfolding changes_at
  changes_end OutOfMemory front i bytes lt h so_far = tt
  changes_end Malformed front i bytes lt h so_far =
      let k : count - i ≡ suc (count - (i + 1)) = omega arith in
      let one : with_front front (changes_at tables (count - i) bytes) ≡ None = rw (k, h) refl in
      sym so_far ∙ one

  pub changes_done : (front : List Change) (i : ℕ) (bytes : List ℕ) → count ≤ i → with_front front (changes_at tables (count - i) bytes) ≡ total
      → total ≡ Some (front, bytes)
  unfolding changes_at
  changes_done front i bytes le so_far =
      let k : count - i ≡ 0 = omega arith in
      let one : with_front front (changes_at tables (count - i) bytes) ≡ Some (front, bytes) =
      rw k (ap (λ (cs : List Change). Some (cs, bytes)) (append-nil front)) in
      sym so_far ∙ one
