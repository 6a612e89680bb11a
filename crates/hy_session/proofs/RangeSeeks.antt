-- Numbers of a range that pass a test, looked for one by one.
use Rattle.std.proofs.Common.{◌≡◌, ℕ, zero, ◌+◌, ◌-◌, ◌<◌, ◌≤◌, List, ◌∷◌, ◌++◌, refl, ap, ◌∙◌, sym, arith, suc, Bool, true, false, map, Some, Option, subst}
use Rattle.std.specs.List.{filter, range_with_len, slice_get}

-- a range from one number on
pub range_more : (from end : ℕ) → from < end → range_with_len from (end - from) ≡ from ∷ range_with_len (from + 1) (end - (from + 1))
range_more from end h =
    let e : end - from ≡ suc (end - (from + 1)) = omega arith in
    rw e refl

-- the values at a range from one number on
pub mapped_more : {A : Type 0} (g : ℕ → A) (from end : ℕ) → from < end
    → map g (range_with_len from (end - from)) ≡ g from ∷ map g (range_with_len (from + 1) (end - (from + 1)))
mapped_more g from end h = ap (map g) (range_more from end h)

-- those of a range that pass a test, where the first number does
pub passes_first : {A : Type 0} (p : ℕ → Bool) (g : ℕ → A) (from end : ℕ) → from < end → p from ≡ true
    → map g (filter p (range_with_len from (end - from))) ≡ g from ∷ map g (filter p (range_with_len (from + 1) (end - (from + 1))))
passes_first p g from end h t = rw (range_more from end h, t) refl

-- and where it doesn't
pub passes_later : {A : Type 0} (p : ℕ → Bool) (g : ℕ → A) (from end : ℕ) → from < end → p from ≡ false
    → map g (filter p (range_with_len from (end - from))) ≡ map g (filter p (range_with_len (from + 1) (end - (from + 1))))
passes_later p g from end h t = rw (range_more from end h, t) refl

-- what is so many behind the first of a range that pass is this one, where it passes and nothing is before
pub is_here : {A : Type 0} (p : ℕ → Bool) (g : ℕ → A) (from end left : ℕ) (others : List A) (all : Option A) → from < end → p from ≡ true → left ≡ 0
    → slice_get (map g (filter p (range_with_len from (end - from))) ++ others) left ≡ all → all ≡ Some (g from)
is_here {A = A} p g from end left others all h t none before =
    sym before ∙ (ap (λ (n : ℕ). slice_get (map g (filter p (range_with_len from (end - from))) ++ others) n) none
    ∙ ap (λ (xs : List A). slice_get (xs ++ others) 0) (passes_first p g from end h t))

-- where it passes and isn't the one, one less is before what is looked for
pub is_behind : {A : Type 0} (p : ℕ → Bool) (g : ℕ → A) (from end left less : ℕ) (others : List A) (all : Option A) → from < end → p from ≡ true
    → left ≡ suc less
    → slice_get (map g (filter p (range_with_len from (end - from))) ++ others) left ≡ all
    → slice_get (map g (filter p (range_with_len (from + 1) (end - (from + 1)))) ++ others) less ≡ all
is_behind {A = A} p g from end left less others all h t one before =
    ap (λ (xs : List A). slice_get (xs ++ others) (suc less)) (sym (passes_first p g from end h t))
    ∙ (ap (λ (n : ℕ). slice_get (map g (filter p (range_with_len from (end - from))) ++ others) n) (sym one) ∙ before)

-- where it doesn't pass, as many
pub is_later : {A : Type 0} (p : ℕ → Bool) (g : ℕ → A) (from end left : ℕ) (others : List A) (all : Option A) → from < end → p from ≡ false
    → slice_get (map g (filter p (range_with_len from (end - from))) ++ others) left ≡ all
    → slice_get (map g (filter p (range_with_len (from + 1) (end - (from + 1)))) ++ others) left ≡ all
is_later {A = A} p g from end left others all h t before = ap (λ (xs : List A). slice_get (xs ++ others) left) (sym (passes_later p g from end h t)) ∙ before

-- where none of some passes, as many behind those
until : {A : Type 0} (p : ℕ → Bool) (g : ℕ → A) (gap from next end left : ℕ) (others : List A) (all : Option A) → from + gap ≡ next → next ≤ end
    → ((k : ℕ) → from ≤ k → k < next → p k ≡ false) → slice_get (map g (filter p (range_with_len from (end - from))) ++ others) left ≡ all
    → slice_get (map g (filter p (range_with_len next (end - next))) ++ others) left ≡ all
until p g zero from next end left others all e within none before =
    let same : from ≡ next = omega arith in
    subst (λ (n : ℕ). slice_get (map g (filter p (range_with_len n (end - n))) ++ others) left ≡ all) same before
until p g (suc gap) from next end left others all e within none before =
    until p g gap (from + 1) next end left others all (omega arith) within (λ k l m. none k (omega (arith, l)) m)
    (is_later p g from end left others all (omega arith) (none from (omega arith) (omega arith)) before)

pub is_until : {A : Type 0} (p : ℕ → Bool) (g : ℕ → A) (from next end left : ℕ) (others : List A) (all : Option A) → from ≤ next → next ≤ end
    → ((k : ℕ) → from ≤ k → k < next → p k ≡ false) → slice_get (map g (filter p (range_with_len from (end - from))) ++ others) left ≡ all
    → slice_get (map g (filter p (range_with_len next (end - next))) ++ others) left ≡ all
is_until p g from next end left others all on within none before = until p g (next - from) from next end left others all (omega arith) within none before

-- where none passes, what is so many behind is among the others
pub is_among_others : {A : Type 0} (p : ℕ → Bool) (g : ℕ → A) (from end left : ℕ) (others : List A) (all : Option A) → from ≤ end
    → ((k : ℕ) → from ≤ k → k < end → p k ≡ false) → slice_get (map g (filter p (range_with_len from (end - from))) ++ others) left ≡ all
    → all ≡ slice_get others left
is_among_others {A = A} p g from end left others all on none before =
    let past : end - end ≡ 0 = omega arith in
    sym (is_until p g from end end left others all on (omega arith) none before)
    ∙ ap (λ (n : ℕ). slice_get (map g (filter p (range_with_len end n)) ++ others) left) past
