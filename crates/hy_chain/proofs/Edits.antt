-- One chain of many, after a record or two were taken out of it.
use Rattle.std.proofs.Common.{◌≡◌, ℕ, zero, suc, ◌<◌, List, [], ◌∷◌, length, get_or, drop, refl, sym, ap, ◌∙◌, arith}
use Rattle.std.specs.Prelude.{Bool, if◌then◌else◌}
use Rattle.std.proofs.Math.ListN.{set}
use Rattle.std.proofs.lemmas.List.{get_or-set_same, length-set}
use Rattle.std.proofs.lemmas.Bool.{eq-eqb}
use Rattle.hy_chain.specs.Chains.{Undo, marked, stamped}
use Rattle.hy_chain.specs.Pruning.{joined}
use Rattle.hy_chain.specs.Settling.{with_newest_joined}

pub set-set : {A : Type 0} (xs : List A) (i : ℕ) (x y : A) → set (set xs i x) i y ≡ set xs i y
set-set [] zero x y = refl
set-set [] (suc i) x y = refl
set-set (z ∷ zs) zero x y = refl
set-set (z ∷ zs) (suc i) x y = ap (λ ws. z ∷ ws) (set-set zs i x y)

module _ {D : Type 0} (before between : List (List (Undo D))) (pos : ℕ) (rest : List (Undo D)) (within : pos < length before) (taken : between ≡ set before pos rest) where
  at_rest : get_or between pos [] ≡ rest
  at_rest = ap (λ (cs : List (List (Undo D))). get_or cs pos []) taken ∙ get_or-set_same before pos rest [] within

  -- what is done to the chain then is done to its rest
  pub done_after : (f : List (Undo D) → List (Undo D)) (after : List (List (Undo D))) → after ≡ set between pos (f (get_or between pos [])) → after ≡ set before pos (f rest)
  done_after f after e =
      e ∙ (ap (λ (c : List (Undo D)). set between pos (f c)) at_rest
      ∙ (ap (λ (cs : List (List (Undo D))). set cs pos (f rest)) taken ∙ set-set before pos rest (f rest)))

module _ {D : Type 0} (before between after : List (List (Undo D))) (pos : ℕ) (undo : Undo D) (within : pos < length before)
    (first : get_or before pos [] ≡ undo ∷ drop 1 (get_or before pos [])) (taken : between ≡ set before pos (drop 1 (get_or before pos []))) where
  pub restamped : (id time : ℕ) → undo.stamp.mark ≡ id → after ≡ set between pos (marked time undo ∷ get_or between pos [])
      → after ≡ set before pos (stamped id time (get_or before pos []))
  restamped id time e f =
      let rest = drop 1 (get_or before pos []) in
      done_after before between pos rest within taken (λ c. marked time undo ∷ c) after f
      ∙ ap (set before pos) (sym (ap (stamped id time) first ∙ ap (λ (b : Bool). (if b then marked time undo else undo) ∷ rest) (eq-eqb undo.stamp.mark id e)))

-- the newest two are taken out and one is put there
pub joined_after : {D : Type 0} (merged : D → D → D) (before once twice after : List (List (Undo D))) (pos : ℕ) (newer older : Undo D)
    → pos < length before → get_or before pos [] ≡ newer ∷ drop 1 (get_or before pos []) → once ≡ set before pos (drop 1 (get_or before pos []))
    → get_or once pos [] ≡ older ∷ drop 1 (get_or once pos []) → twice ≡ set once pos (drop 1 (get_or once pos []))
    → after ≡ set twice pos (joined merged newer older ∷ get_or twice pos [])
    → after ≡ set before pos (with_newest_joined merged (get_or before pos []))
joined_after {D} merged before once twice after pos newer older within first taken second taken_too put =
    let rest = drop 1 (get_or before pos []) in
    let front = λ (chain : List (Undo D)). joined merged newer older ∷ chain in
    let within_once : pos < length once = omega (arith, within, ap length taken, length-set before pos rest) in
    let left = at_rest before once pos rest within taken in
    let two : get_or before pos [] ≡ newer ∷ older ∷ drop 1 rest =
    first ∙ ap (λ (chain : List (Undo D)). newer ∷ chain) (sym left ∙ second ∙ ap (λ (chain : List (Undo D)). older ∷ drop 1 chain) left) in
    done_after before once pos rest within taken (λ c. front (drop 1 c)) after
    (done_after once twice pos (drop 1 (get_or once pos [])) within_once taken_too front after put)
    ∙ ap (set before pos) (sym (ap (with_newest_joined merged) two))
