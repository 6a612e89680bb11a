-- The newest savepoint of a name, where one more savepoint is looked at; and that it is one of them.
use Rattle.std.proofs.Common.{◌≡◌, ℕ, zero, suc, ◌+◌, ◌<◌, List, [], ◌∷◌, ◌++◌, length, Option, None, Some, Bool, true, false, cond, refl, sym, ap, ◌∙◌, arith}
use Rattle.std.specs.Option.{option_map, option_or}
use Rattle.std.specs.Str.{bytes_eq}
use Rattle.std.proofs.lemmas.Option.{same_Some}
use Rattle.hy_bound.specs.Savepoints.{Saved, newest}

-- behind the others it is the newest, if it has the name
pub newest_last : {A : Type 0} (name : List ℕ) (saved : List (Saved A)) (one : Saved A)
    → newest name (saved ++ one ∷ []) ≡ cond (bytes_eq name one.name) (Some (length saved)) (newest name saved)
newest_last name [] one = by (bytes_eq name one.name)
  where
    by : (b : Bool) → option_or {T = ℕ} None (cond b (Some 0) None) ≡ cond b (Some 0) None
    by true = refl
    by false = refl
newest_last name (first ∷ saved) one =
    ap (λ (behind : Option ℕ). option_or (option_map suc behind) (cond (bytes_eq name first.name) (Some 0) None)) (newest_last name saved one)
    ∙ by (bytes_eq name one.name)
  where
    by : (b : Bool) → option_or (option_map suc (cond b (Some (length saved)) (newest name saved))) (cond (bytes_eq name first.name) (Some 0) None)
        ≡ cond b (Some (suc (length saved))) (option_or (option_map suc (newest name saved)) (cond (bytes_eq name first.name) (Some 0) None))
    by true = refl
    by false = refl

-- it is one of them
within_by : (count : ℕ) (behind : Option ℕ) (b : Bool) (number : ℕ) → ((one : ℕ) → behind ≡ Some one → one < count)
    → option_or (option_map suc behind) (cond b (Some 0) None) ≡ Some number → number < suc count
within_by count (Some one) b number less found =
    let same : suc one ≡ number = same_Some (suc one) number found in let within = less one refl in omega (arith, same, within)
within_by count None true number less found = let same : 0 ≡ number = same_Some 0 number found in omega (arith, same)
within_by count None false number less found = absurd cc

pub newest_within : {A : Type 0} (name : List ℕ) (saved : List (Saved A)) (number : ℕ) → newest name saved ≡ Some number → number < length saved
newest_within name [] number e = absurd cc
newest_within name (one ∷ saved) number e =
    within_by (length saved) (newest name saved) (bytes_eq name one.name) number (λ behind is. newest_within name saved behind is) e
