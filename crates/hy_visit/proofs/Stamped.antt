-- Marks fall still where the own record on top has got its commit time.
use Rattle.std.proofs.Common.{◌≡◌, ℕ, List, [], ◌∷◌, true, false, refl, sym, ap, ◌∙◌, subst, inl, inr, eqb, eqb-true}
use Rattle.std.proofs.lemmas.Bool.{cases_Bool}
use Rattle.hy_chain.specs.Chains.{Undo, Falls, newest}
use Rattle.hy_undo.specs.Images.{Image}
use Rattle.hy_undo.specs.Places.{Place}
use Rattle.hy_undo.specs.Chunks.{is_own, AtOwn, StampedPlace, Everywhere}
use Rattle.hy_visit.specs.Pruning.{AllFall, AllUnderOwn, UnderOwn}
use Rattle.hy_visit.proofs.Stamps.{FallsStamps, stamps_in, under_of, falls_of, falls_by}

abbrev Commits : ℕ → ℕ → Place → Place → Type 0
Commits id time = AtOwn id (StampedPlace id time)

-- where the own record isn't on top nothing changes
left_alone : (id time : ℕ) (old new : Place) → Falls old.chain → is_own id (newest old.chain) ≡ false → Commits id time old new → Falls new.chain
left_alone id time old new falls other change = subst (λ (place : Place). Falls place.chain) (sym (change.others other)) falls

own_on_top : (id time : ℕ) (old new : Place) (undo : Undo Image) (rest : List (Undo Image)) → old.chain ≡ undo ∷ rest → Falls (undo ∷ rest)
    → UnderOwn id time (undo ∷ rest)
    → (undo.stamp.mark ≡ id) → is_own id (newest old.chain) ≡ true → Commits id time old new → Falls new.chain
own_on_top id time old new undo rest is falls under same own change =
    let stamps = (change.own own).stamps undo.stamp (stamps_in rest) (ap stamps_in is) in
    falls_by new.chain (subst FallsStamps (sym stamps) (under_of time rest (under same), falls_of rest falls.1))

falls_at : (id time : ℕ) (old new : Place) (chain : List (Undo Image)) → old.chain ≡ chain → Falls chain → UnderOwn id time chain
    → Commits id time old new → Falls new.chain
falls_at id time old new [] is falls under change =
    left_alone id time old new (subst Falls (sym is) falls) (ap (λ (c : List (Undo Image)). is_own id (newest c)) is) change
falls_at id time old new (undo ∷ rest) is falls under change =
    let top = ap (λ (c : List (Undo Image)). is_own id (newest c)) is in
    elim (cases_Bool (eqb undo.stamp.mark id)) [
      | inl same ↦ own_on_top id time old new undo rest is falls under (eqb-true undo.stamp.mark id same) (top ∙ same) change
      | inr other ↦ left_alone id time old new (subst Falls (sym is) falls) (top ∙ other) change
    ]

pub all_fall_still : (id time : ℕ) (olds news : List Place) → AllFall olds → AllUnderOwn id time olds
    → Everywhere (AtOwn id (StampedPlace id time)) olds news → AllFall news
all_fall_still id time [] [] falls under change = tt
all_fall_still id time [] (new ∷ news) falls under change = absurd change
all_fall_still id time (old ∷ olds) [] falls under change = absurd change
all_fall_still id time (old ∷ olds) (new ∷ news) falls under change =
    (falls_at id time old new old.chain refl falls.0 under.0 change.0, all_fall_still id time olds news falls.1 under.1 change.1)
