-- Starts that are open: those that the clock gave before, and one that enters and leaves again.
use Rattle.std.proofs.Common.{◌≡◌, ℕ, ◌<◌, Bool, true, false, List, [], ◌∷◌, ◌++◌, refl, ap, ◌∙◌, cond, arith}
use Rattle.std.specs.Prelude.{◌==◌}
use Rattle.std.proofs.lemmas.Bool.{eq-eqb}
use Rattle.hy_prune.specs.OpenStarts.{without}
use Rattle.hy_core.specs.Sound.{AreGiven}

pub given_without : (next start : ℕ) (starts : List ℕ) → AreGiven next starts → AreGiven next (without start starts)
given_without next start [] given = tt
given_without next start (first ∷ starts) given =
    elim (first == start) as (λ (b : Bool). AreGiven next (cond b starts (first ∷ without start starts))) [
      | true ↦ given.1
      | false ↦ (given.0, given_without next start starts given.1)
    ]

behind : (first next : ℕ) (starts : List ℕ) (b : Bool) → (first == next) ≡ b → first < next
    → without next (starts ++ next ∷ []) ≡ starts → cond b (starts ++ next ∷ []) (first ∷ without next (starts ++ next ∷ [])) ≡ first ∷ starts
behind first next starts true is below rest = absurd (omega (arith, Rattle.std.proofs.lemmas.Bool.eqb-true first next is))
behind first next starts false is below rest = ap (λ (others : List ℕ). first ∷ others) rest

-- a start that the clock gives now leaves the others as they were
pub entered_leaves : (next : ℕ) (starts : List ℕ) → AreGiven next starts → without next (starts ++ next ∷ []) ≡ starts
entered_leaves next [] given = ap (λ (b : Bool). cond b [] (next ∷ [])) (eq-eqb next next refl)
entered_leaves next (first ∷ starts) given = behind first next starts (first == next) refl given.0 (entered_leaves next starts given.1)

pub left_as_it_was : (next start : ℕ) (starts reserved entered after : List ℕ) → AreGiven next starts → start ≡ next → reserved ≡ starts
    → entered ≡ reserved ++ start ∷ [] → after ≡ without start entered → after ≡ starts
left_as_it_was next start starts reserved entered after given is first then last =
    last ∙ (ap (λ (one : ℕ). without one entered) is
    ∙ (ap (without next) (then ∙ (ap (λ (one : ℕ). reserved ++ one ∷ []) is ∙ ap (λ (opens : List ℕ). opens ++ next ∷ []) first)) ∙ entered_leaves next starts given))
