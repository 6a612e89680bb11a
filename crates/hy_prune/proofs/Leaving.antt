-- A start that leaves the open ones.
use Rattle.std.proofs.Common.{◌≡◌, ℕ, zero, suc, ◌+◌, ◌<◌, Bool, true, false, List, [], ◌∷◌, ◌++◌, length, get_or, Some, None, take, drop, ap, ◌∙◌, sym, cond, arith}
use Rattle.std.specs.Prelude.{◌==◌, position, not, All, Contains, if◌then◌else◌}
use Rattle.std.specs.List.{AllByRecursion, remove, position_or_len}
use Rattle.std.proofs.lemmas.Bool.{eq-eqb, lt-ltb}
use Rattle.std.proofs.lemmas.List.Quantifiers.{position-Some}
use Rattle.hy_prune.specs.OpenStarts.{Rise, without}

first_out : (start : ℕ) (starts : List ℕ) (i : ℕ) → i < length starts → (get_or starts i start == start) ≡ true
    → ((k : ℕ) → k < i → (get_or starts k start == start) ≡ false) → take i starts ++ drop (suc i) starts ≡ without start starts
first_out start [] i l here before = absurd (omega arith)
first_out start (s ∷ ss) zero l here before = sym (ap (λ (b : Bool). cond b ss (s ∷ without start ss)) here)
first_out start (s ∷ ss) (suc i) l here before =
    let rest = first_out start ss i (omega arith) here (λ k h. before (suc k) (omega (arith, h))) in
    let other = before zero (omega arith) in
    ap (λ (xs : List ℕ). s ∷ xs) rest ∙ sym (ap (λ (b : Bool). cond b ss (s ∷ without start ss)) other)

-- what is taken out at the index of a start is that start
pub removed : (start : ℕ) (starts : List ℕ) (i : ℕ) → position (λ other. other == start) starts ≡ Some i → remove starts i ≡ without start starts
removed start starts i found =
    let at = position-Some (λ other. other == start) starts i start found in
    first_out start starts i at.0 at.1 at.2

all_without : (P : ℕ → Type 0) (start : ℕ) (starts : List ℕ) → AllByRecursion P starts → AllByRecursion P (without start starts)
all_without P start [] all = tt
all_without P start (s ∷ ss) all =
    elim (s == start) as (λ (b : Bool). AllByRecursion P (cond b ss (s ∷ without start ss))) [
      | true ↦ all.1
      | false ↦ (all.0, all_without P start ss all.1)
    ]

pub rise_without : (start : ℕ) (starts : List ℕ) → Rise starts → Rise (without start starts)
rise_without start [] rise = tt
rise_without start (s ∷ ss) rise =
    elim (s == start) as (λ (b : Bool). Rise (cond b ss (s ∷ without start ss))) [
      | true ↦ rise.1
      | false ↦ (all_without (λ later. s < later) start ss rise.0, rise_without start ss rise.1)
    ]

all_added : (P : ℕ → Type 0) (starts : List ℕ) (start : ℕ) → AllByRecursion P starts → P start → AllByRecursion P (starts ++ start ∷ [])
all_added P [] start all p = (p, tt)
all_added P (s ∷ ss) start all p = (all.0, all_added P ss start all.1 p)

-- starts rise with a later one at their end
rise_added : (starts : List ℕ) (start : ℕ) → Rise starts → All (λ other. other < start) starts → Rise (starts ++ start ∷ [])
rise_added [] start rise below = (tt, tt)
rise_added (s ∷ ss) start rise below =
    (all_added (λ later. s < later) ss start rise.0 (below zero s (omega arith)), rise_added ss start rise.1 (λ k d l. below (suc k) d (omega (arith, l))))

pub rise_either : (added : Bool) (starts : List ℕ) (start : ℕ) → Rise starts → All (λ other. other < start) starts → Rise (if added then starts ++ start ∷ [] else starts)
rise_either true starts start rise below = rise_added starts start rise below
rise_either false starts start rise below = rise

short : (start : ℕ) (starts : List ℕ) (k : ℕ) → k < length starts → get_or starts k start ≡ start → position_or_len (λ other. other == start) starts < length starts
short start [] k l at = absurd (omega arith)
short start (s ∷ ss) zero l at =
    let here : (s == start) ≡ true = eq-eqb s start at in
    let first : ◌≡◌ {A = ℕ} (position_or_len (λ other. other == start) (s ∷ ss)) 0 = ap (λ (b : Bool). cond (not b) (1 + position_or_len (λ other. other == start) ss) 0) here in
    omega (arith, first)
short start (s ∷ ss) (suc k) l at =
    let rest = short start ss k (omega arith) at in
    elim (s == start) as (λ (b : Bool). cond (not b) (1 + position_or_len (λ other. other == start) ss) 0 < length (s ∷ ss)) [
      | true ↦ omega arith
      | false ↦ omega (arith, rest)
    ]

-- a start that is open has an index
pub has_place : (start : ℕ) (starts : List ℕ) → Contains starts start → position (λ other. other == start) starts ≡ Some (position_or_len (λ other. other == start) starts)
has_place start starts found =
    let less = lt-ltb (position_or_len (λ other. other == start) starts) (length starts) (short start starts found.0 found.1 found.2) in
    ap (λ (b : Bool). cond b (Some (position_or_len (λ other. other == start) starts)) None) less
