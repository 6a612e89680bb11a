-- What a chunk is like after pruning.
use Rattle.std.proofs.Common.{◌≡◌, ℕ, suc, ◌≤◌, List, [], ◌∷◌, length, refl, sym, ap, ◌∙◌, subst}
use Rattle.std.specs.Prelude.{count_by, nat_lt}
use Rattle.std.specs.List.{AllByRecursion}
use Rattle.hy_stamp.specs.declared.Stamp.{Stamp}
use Rattle.hy_prune.specs.declared.Cover.{Cover}
use Rattle.hy_chain.specs.Chains.{Falls}
use Rattle.hy_chain.specs.Pruning.{Shrinks, count_old, pruned}
use Rattle.hy_undo.specs.Images.{both}
use Rattle.hy_undo.specs.Places.{Place}
use Rattle.hy_undo.specs.Chunks.{Pruned, Everywhere}
use Rattle.hy_visit.specs.Pruning.{AllFall, AllShort}
use Rattle.hy_visit.proofs.Stamps.{FallsStamps, falls_of, falls_by, count_of}

-- what holds of each position holds after a change everywhere that brings it about
pub all_changed : (P Q : Place → Type 0) (does : Place → Place → Type 0) → ((old new : Place) → P old → does old new → Q new)
    → (olds news : List Place) → AllByRecursion P olds → Everywhere does olds news → AllByRecursion Q news
all_changed P Q does step [] [] all change = tt
all_changed P Q does step [] (new ∷ news) all change = absurd change
all_changed P Q does step (old ∷ olds) [] all change = absurd change
all_changed P Q does step (old ∷ olds) (new ∷ news) all change = (step old new all.0 change.0, all_changed P Q does step olds news all.1 change.1)

pub all_falling : (cover : Cover) → Shrinks both → (olds news : List Place) → AllFall olds → Everywhere (Pruned cover) olds news → AllFall news
all_falling cover shrinks olds news =
    all_changed (λ place. Falls place.chain) (λ place. Falls place.chain) (Pruned cover)
    (λ old new falls change. falls_by new.chain
    (subst FallsStamps (sym change.stamps) (falls_of (pruned both cover old.chain) (shrinks cover old.chain falls).1))) olds news

pub all_short : (cover : Cover) → Shrinks both → (olds news : List Place) → AllFall olds → Everywhere (Pruned cover) olds news → AllShort cover news
all_short cover shrinks olds news =
    all_changed (λ place. Falls place.chain) (λ place. count_old cover place.chain ≤ length cover.starts) (Pruned cover)
    (λ old new falls change.
    let is = count_of cover.next new.chain
    ∙ ap (λ (stamps : List Stamp). count_by (λ stamp. nat_lt stamp.mark cover.next) stamps) change.stamps
    ∙ sym (count_of cover.next (pruned both cover old.chain)) in
    subst (λ (n : ℕ). n ≤ length cover.starts) (sym is) (shrinks cover old.chain falls).0) olds news

-- there are as many positions after a change everywhere
pub as_many : (does : Place → Place → Type 0) (olds news : List Place) → Everywhere does olds news → length news ≡ length olds
as_many does [] [] change = refl
as_many does [] (new ∷ news) change = absurd change
as_many does (old ∷ olds) [] change = absurd change
as_many does (old ∷ olds) (new ∷ news) change = ap suc (as_many does olds news change.1)
