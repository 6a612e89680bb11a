-- What a comparison of two vectors of 16 numbers says of their lanes, packed in a word.
use Rattle.std.proofs.Common.{◌≡◌, ℕ, ℤ, suc, ◌-◌, ◌%◌, ◌^◌, Bool, cond, List, [], ◌∷◌, length, map, refl, sym, ap, ◌∙◌, arith, FitsSigned, w64, to_z, of_z}
use Rattle.std.specs.Prelude.{not, replicate}
use Rattle.std.specs.List.{All}
use Rattle.std.specs.Ordering.{int_cmp, MatchOrdering}
use Rattle.std.specs.declared.cmp.Ordering.{Ordering}
use Rattle.std.specs.declared.cmp.Ordering.TheVariants.{Less, Equal, Greater}
use Rattle.std.specs.Cmp.{int_ranks}
use Rattle.std.specs.Int.Signed.{lt_z, le_z, ◌<ℤ◌}
use lib.Dec.{eqb}
use lib.Lanes.{mask_l, top, zip2}
use Rattle.std.proofs.lemmas.Bool.{eq-eqb, ne_eqb}
use Rattle.std.proofs.lemmas.Int.{ints, to_z-of_z}
use Rattle.std.proofs.lemmas.List.{length-map}
use Rattle.std.proofs.lemmas.Simd.{bitmask_splat, tops_compared, zip2_splat_left, mask_l-mod}
use Rattle.hy_value.specs.declared.Cmp.{Cmp}
use Rattle.hy_value.specs.declared.Cmp.TheVariants.{Eq, Ne, Lt, Le, Gt, Ge}
use Rattle.hy_value.specs.Order.{holds_at}
use Rattle.hy_kernel.specs.Bits.{compares}

-- a test of two lanes says what the comparison says of the numbers
pub record Says (test : ℕ → ℕ → Bool) (op : Cmp) : Type 0 where
  pub says : (left right : ℤ) → FitsSigned w64 left → FitsSigned w64 right → test (of_z w64 left) (of_z w64 right) ≡ holds_at op (int_cmp left right)

-- what holds at each of the three answers holds of the order of two numbers
ranked : (P : Ordering → Type 0) (left right : ℤ) → (left <ℤ right → P Less) → (left ≡ right → P Equal) → (right <ℤ left → P Greater)
    → P (int_cmp left right)
ranked P left right less equal greater = by_rank (int_cmp left right) (int_ranks left right)
  where
    by_rank : (order : Ordering) → MatchOrdering order (left <ℤ right) (left ≡ right) (right <ℤ left) → P order
    by_rank Less h = less h
    by_rank Equal h = equal h
    by_rank Greater h = greater h

same_number : (left right : ℤ) → FitsSigned w64 left → FitsSigned w64 right → of_z w64 left ≡ of_z w64 right → left ≡ right
same_number left right fits other e = sym (to_z-of_z w64 left fits) ∙ (ap (to_z w64) e ∙ to_z-of_z w64 right other)

-- the tests of the six comparisons
pub equal_says : Says eqb Eq
equal_says = record {
  says = λ left right fits other. ranked (λ order. eqb (of_z w64 left) (of_z w64 right) ≡ holds_at Eq order) left right
      (λ h. ne_eqb (of_z w64 left) (of_z w64 right) (λ e. let q = same_number left right fits other e in omega (arith, ints)))
      (λ h. eq-eqb (of_z w64 left) (of_z w64 right) (ap (of_z w64) h))
      (λ h. ne_eqb (of_z w64 left) (of_z w64 right) (λ e. let q = same_number left right fits other e in omega (arith, ints)));
}

opposite : (order : Ordering) → not (holds_at Eq order) ≡ holds_at Ne order
opposite Less = refl
opposite Equal = refl
opposite Greater = refl

pub unequal_says : Says (λ a b. not (eqb a b)) Ne
unequal_says = record { says = λ left right fits other. ap not (equal_says.says left right fits other) ∙ opposite (int_cmp left right) }

pub below_says : Says (λ a b. lt_z (to_z w64 a) (to_z w64 b)) Lt
below_says = record {
  says = λ left right fits other.
      let P : Ordering → Type 0 = λ order. lt_z (to_z w64 (of_z w64 left)) (to_z w64 (of_z w64 right)) ≡ holds_at Lt order in
      ranked P left right (λ h. grind (arith, ints)) (λ h. grind (arith, ints)) (λ h. grind (arith, ints));
}

pub at_most_says : Says (λ a b. le_z (to_z w64 a) (to_z w64 b)) Le
at_most_says = record {
  says = λ left right fits other.
      let P : Ordering → Type 0 = λ order. le_z (to_z w64 (of_z w64 left)) (to_z w64 (of_z w64 right)) ≡ holds_at Le order in
      ranked P left right (λ h. grind (arith, ints)) (λ h. grind (arith, ints)) (λ h. grind (arith, ints));
}

pub above_says : Says (λ a b. lt_z (to_z w64 b) (to_z w64 a)) Gt
above_says = record {
  says = λ left right fits other.
      let P : Ordering → Type 0 = λ order. lt_z (to_z w64 (of_z w64 right)) (to_z w64 (of_z w64 left)) ≡ holds_at Gt order in
      ranked P left right (λ h. grind (arith, ints)) (λ h. grind (arith, ints)) (λ h. grind (arith, ints));
}

pub at_least_says : Says (λ a b. le_z (to_z w64 b) (to_z w64 a)) Ge
at_least_says = record {
  says = λ left right fits other.
      let P : Ordering → Type 0 = λ order. le_z (to_z w64 (of_z w64 right)) (to_z w64 (of_z w64 left)) ≡ holds_at Ge order in
      ranked P left right (λ h. grind (arith, ints)) (λ h. grind (arith, ints)) (λ h. grind (arith, ints));
}

lanes_say : (test : ℕ → Bool) (p : ℤ → Bool) (values : List ℤ) → All (FitsSigned w64) values
    → ((value : ℤ) → FitsSigned w64 value → test (of_z w64 value) ≡ p value) → map test (map (of_z w64) values) ≡ map p values
lanes_say test p [] fit says = refl
lanes_say test p (value ∷ values) fit says =
    ap (λ (b : Bool). b ∷ map test (map (of_z w64) values)) (says value (fit 0 value (omega arith)))
    ∙ ap (λ (bs : List Bool). p value ∷ bs) (lanes_say test p values (λ k d l. fit (suc k) d (omega (arith, l))) says)

named : {op which : Cmp} {values lanes : List ℤ} (right : ℤ) → op ≡ which → lanes ≡ values
    → mask_l (map (compares which right) lanes) ≡ mask_l (map (compares op right) values)
named {op} {which} {values} right is same =
    ap (λ (xs : List ℤ). mask_l (map (compares which right) xs)) same ∙ ap (λ (o : Cmp). mask_l (map (compares o right) values)) (sym is)

-- the lanes of a vector beside a number in each lane
pub packed_lanes : {test : ℕ → ℕ → Bool} {op which : Cmp} {values lanes : List ℤ} {right : ℤ}
    → length values ≡ 16 → lanes ≡ values → All (FitsSigned w64) lanes → FitsSigned w64 right → op ≡ which → Says test which
    → mask_l (map (top 63) (zip2 (λ a b. cond (test a b) (2 ^ 64 - 1) 0) (map (of_z w64) lanes) (replicate 16 (of_z w64 right)))) % 2 ^ 64
    ≡ mask_l (map (compares op right) values)
packed_lanes {test} {op} {which} {values} {lanes} {right} size same fit fits is which_says =
    let long : length (map (of_z w64) lanes) ≡ 16 = length-map lanes (of_z w64) ∙ (ap length same ∙ size) in
    bitmask_splat w64 test (map (of_z w64) lanes) 16 (of_z w64 right) long (omega arith)
    ∙ (ap mask_l (lanes_say (λ a. test a (of_z w64 right)) (compares which right) lanes fit (λ value f. which_says.says value right f fits))
    ∙ named right is same)

-- the same with the sides turned about
pub packed_turned : {test : ℕ → ℕ → Bool} {op which : Cmp} {values lanes : List ℤ} {right : ℤ}
    → length values ≡ 16 → lanes ≡ values → All (FitsSigned w64) lanes → FitsSigned w64 right → op ≡ which → Says (λ a b. test b a) which
    → mask_l (map (top 63) (zip2 (λ a b. cond (test a b) (2 ^ 64 - 1) 0) (replicate 16 (of_z w64 right)) (map (of_z w64) lanes))) % 2 ^ 64
    ≡ mask_l (map (compares op right) values)
packed_turned {test} {op} {which} {values} {lanes} {right} size same fit fits is which_says =
    let long : length (map (of_z w64) lanes) ≡ 16 = length-map lanes (of_z w64) ∙ (ap length same ∙ size) in
    let tests = map (test (of_z w64 right)) (map (of_z w64) lanes) in
    let splat = replicate 16 (of_z w64 right) in
    let tops = tops_compared w64 test splat (map (of_z w64) lanes) ∙ zip2_splat_left test (of_z w64 right) 16 (map (of_z w64) lanes) long in
    ap (λ (bs : List Bool). mask_l bs % 2 ^ 64) tops
    ∙ (mask_l-mod tests 64 (omega (arith, long, length-map (map (of_z w64) lanes) (test (of_z w64 right))))
    ∙ (ap mask_l (lanes_say (test (of_z w64 right)) (compares which right) lanes fit (λ value f. which_says.says value right f fits))
    ∙ named right is same))
