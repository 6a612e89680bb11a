-- The groups of times.
use Rattle.std.proofs.Common.{◌≡◌, ℕ, zero, suc, ◌<◌, ◌≤◌, Bool, true, false, List, [], ◌∷◌, length, get_or, ap, cond, arith, inl, inr}
use Rattle.std.specs.Prelude.{count_by, nat_lt}
use Rattle.std.proofs.lemmas.Bool.{cases_lt, lt-ltb, le-ltb}
use Rattle.std.proofs.lemmas.List.Sums.{sum_by-cons}

-- how many of these are below a time
abbrev pub below : ℕ → List ℕ → ℕ
below time starts = count_by (λ start. nat_lt start time) starts

below_less : (time s : ℕ) (ss : List ℕ) → s < time → below time (s ∷ ss) ≡ suc (below time ss)
below_less time s ss h =
    let e = sum_by-cons (λ start. cond (nat_lt start time) 1 0) s ss in
    let t : nat_lt s time ≡ true = lt-ltb s time h in
    let c : ◌≡◌ {A = ℕ} (cond (nat_lt s time) 1 0) 1 = ap (λ (b : Bool). cond b 1 0) t in
    omega (arith, e, c)

below_other : (time s : ℕ) (ss : List ℕ) → time ≤ s → below time (s ∷ ss) ≡ below time ss
below_other time s ss h =
    let e = sum_by-cons (λ start. cond (nat_lt start time) 1 0) s ss in
    let t : nat_lt s time ≡ false = le-ltb s time h in
    let c : ◌≡◌ {A = ℕ} (cond (nat_lt s time) 1 0) 0 = ap (λ (b : Bool). cond b 1 0) t in
    omega (arith, e, c)

-- a later time has at least as many below it
pub below_grows : (starts : List ℕ) (a b : ℕ) → a ≤ b → below a starts ≤ below b starts
below_grows [] a b h = omega arith
below_grows (s ∷ ss) a b h =
    let rest = below_grows ss a b h in
    elim (cases_lt s a) [
      | inl here ↦ let f = below_less a s ss here in let g = below_less b s ss (omega arith) in omega arith
      | inr there ↦ let f = below_other a s ss there in
          elim (cases_lt s b) [
            | inl less ↦ let g = below_less b s ss less in omega arith
            | inr more ↦ let g = below_other b s ss more in omega arith
          ]
    ]

-- with none below it, a time is at most each of them
pub none_below : (starts : List ℕ) (k : ℕ) (d a : ℕ) → k < length starts → below a starts ≡ 0 → a ≤ get_or starts k d
none_below [] k d a h e = absurd (omega arith)
none_below (s ∷ ss) zero d a h e =
    elim (cases_lt s a) [
      | inl less ↦ let f = below_less a s ss less in absurd (omega arith)
      | inr more ↦ more
    ]
none_below (s ∷ ss) (suc k) d a h e =
    elim (cases_lt s a) [
      | inl less ↦ let f = below_less a s ss less in absurd (omega arith)
      | inr more ↦ let f = below_other a s ss more in none_below ss k d a (omega arith) (omega arith)
    ]

-- of two times with as many below, the earlier is above whatever the later is above
pub same_below : (starts : List ℕ) (k : ℕ) (d a b : ℕ) → k < length starts → a ≤ b → below a starts ≡ below b starts → get_or starts k d < b → get_or starts k d < a
same_below [] k d a b h le e l = absurd (omega arith)
same_below (s ∷ ss) zero d a b h le e l =
    elim (cases_lt s a) [
      | inl less ↦ less
      | inr more ↦ let f = below_other a s ss more in let g = below_less b s ss l in let grows = below_grows ss a b le in absurd (omega arith)
    ]
same_below (s ∷ ss) (suc k) d a b h le e l =
    elim (cases_lt s a) [
      | inl less ↦ let f = below_less a s ss less in let g = below_less b s ss (omega arith) in same_below ss k d a b (omega arith) le (omega arith) l
      | inr more ↦
          let f = below_other a s ss more in
          let grows = below_grows ss a b le in
          elim (cases_lt s b) [
            | inl less ↦ let g = below_less b s ss less in absurd (omega arith)
            | inr above ↦ let g = below_other b s ss above in same_below ss k d a b (omega arith) le (omega arith) l
          ]
    ]

-- at most as many are below as there are
pub below_length : (starts : List ℕ) (a : ℕ) → below a starts ≤ length starts
below_length [] a = omega arith
below_length (s ∷ ss) a =
    let rest = below_length ss a in
    elim (cases_lt s a) [
      | inl less ↦ let f = below_less a s ss less in omega arith
      | inr more ↦ let f = below_other a s ss more in omega arith
    ]
