-- The stamps of a position that was pruned.
use Rattle.std.proofs.Common.{◌≡◌, ◌⊎◌, ℕ, ◌<◌, ◌≤◌, List, [], ◌∷◌, inl, inr, sym, ap, ◌∙◌, subst, Contains, Some}
use Rattle.hy_stamp.specs.declared.Stamp.{Stamp}
use Rattle.hy_prune.specs.declared.Cover.{Cover}
use Rattle.hy_prune.specs.Fates.{group}
use Rattle.hy_chain.specs.Chains.{Undo, newest, Under, Falls}
use Rattle.hy_chain.specs.Pruning.{pruned, stamps_of, KeepsStamps, Shrinks}
use Rattle.hy_undo.specs.Images.{Image, both}
use Rattle.hy_refinement.specs.Pruned.{PrunedTells}

under_by_stamps : (time : ℕ) (c d : List (Undo Image)) → stamps_of c ≡ stamps_of d → Under time c → Under time d
under_by_stamps time [] [] e u = tt
under_by_stamps time [] (q ∷ d) e u = absurd (cc)
under_by_stamps time (p ∷ c) [] e u = absurd (cc)
under_by_stamps time (p ∷ c) (q ∷ d) e u =
    let same : p.stamp ≡ q.stamp = cc in
    let rest : stamps_of c ≡ stamps_of d = cc in
    (subst (λ (s : Stamp). s.mark < time) same u.0, under_by_stamps time c d rest u.1)

pub falls_by_stamps : (c d : List (Undo Image)) → stamps_of c ≡ stamps_of d → Falls c → Falls d
falls_by_stamps [] [] e f = tt
falls_by_stamps [] (q ∷ d) e f = absurd (cc)
falls_by_stamps (p ∷ c) [] e f = absurd (cc)
falls_by_stamps (p ∷ c) (q ∷ d) e f =
    let same : p.stamp ≡ q.stamp = cc in
    let rest : stamps_of c ≡ stamps_of d = cc in
    (subst (λ (s : Stamp). Under s.mark d) same (under_by_stamps p.stamp.mark c d rest f.0), falls_by_stamps c d rest f.1)

-- a chain whose newest record has this stamp
top_of : (chain : List (Undo Image)) (stamp : Stamp) → newest chain ≡ Some stamp → (others : List Stamp) × (stamps_of chain ≡ stamp ∷ others)
top_of [] stamp e = absurd (cc)
top_of (undo ∷ chain) stamp e = (stamps_of chain, (let same : undo.stamp ≡ stamp = cc in ap (λ (s : Stamp). s ∷ stamps_of chain) same))

-- what pruning leaves of a chain from this stamp on
late_of : KeepsStamps both → (cover : Cover) (chain : List (Undo Image)) (stamp : Stamp) (rest : List Stamp) → stamps_of chain ≡ stamp ∷ rest
    → cover.next ≤ stamp.mark
    → (others : List Stamp) × (stamps_of (pruned both cover chain) ≡ stamp ∷ others) × ((other : Stamp) → Contains others other → Contains rest other)
late_of keeps cover [] stamp rest e late = absurd (cc)
late_of keeps cover (undo ∷ chain) stamp rest e late =
    let same : undo.stamp ≡ stamp = cc in
    let behind : stamps_of chain ≡ rest = cc in
    let head : cover.next ≤ undo.stamp.mark = subst (λ (s : Stamp). cover.next ≤ s.mark) (sym same) late in (
      stamps_of (pruned both cover chain),
      ap stamps_of (keeps.late_head cover undo chain head) ∙ ap (λ (s : Stamp). s ∷ stamps_of (pruned both cover chain)) same,
      λ other c. subst (λ (xs : List Stamp). Contains xs other) behind (keeps.made_none cover chain other c),
    )

newest_of : KeepsStamps both → (cover : Cover) (chain : List (Undo Image)) (stamp : Stamp) (rest : List Stamp) → stamps_of chain ≡ stamp ∷ rest
    → 0 < group cover stamp.mark
    → (others : List Stamp) × (stamps_of (pruned both cover chain) ≡ stamp ∷ others)
newest_of keeps cover [] stamp rest e some = absurd (cc)
newest_of keeps cover (undo ∷ chain) stamp rest e some =
    let same : undo.stamp ≡ stamp = cc in
    let covered : 0 < group cover undo.stamp.mark = subst (λ (s : Stamp). 0 < group cover s.mark) (sym same) some in
    top_of (pruned both cover (undo ∷ chain)) stamp (keeps.newest_stays cover undo chain covered ∙ ap (λ (s : Stamp). Some s) same)

second_of : KeepsStamps both → (cover : Cover) (chain : List (Undo Image)) (stamp top : Stamp) (rest : List Stamp) → stamps_of chain ≡ stamp ∷ top ∷ rest
    → cover.next ≤ stamp.mark
    → (cover.next ≤ top.mark) ⊎ (0 < group cover top.mark) → (others : List Stamp) × (stamps_of (pruned both cover chain) ≡ stamp ∷ top ∷ others)
second_of keeps cover [] stamp top rest e late why = absurd (cc)
second_of keeps cover (undo ∷ chain) stamp top rest e late why =
    let same : undo.stamp ≡ stamp = cc in
    let behind : stamps_of chain ≡ top ∷ rest = cc in
    let head : cover.next ≤ undo.stamp.mark = subst (λ (s : Stamp). cover.next ≤ s.mark) (sym same) late in
    let whole = ap stamps_of (keeps.late_head cover undo chain head) ∙ ap (λ (s : Stamp). s ∷ stamps_of (pruned both cover chain)) same in
    elim why [
      | inl late_too ↦ let found = late_of keeps cover chain top rest behind late_too in (found.0, whole ∙ ap (λ (xs : List Stamp). stamp ∷ xs) found.1)
      | inr some ↦ let found = newest_of keeps cover chain top rest behind some in (found.0, whole ∙ ap (λ (xs : List Stamp). stamp ∷ xs) found.1)
    ]

pub tells : KeepsStamps both → Shrinks both → PrunedTells
tells keeps shrinks cover old new p = record {
  falls = λ f. falls_by_stamps (pruned both cover old.chain) new.chain (sym p.stamps) (shrinks cover old.chain f).1;
  made_none = λ stamp c. keeps.made_none cover old.chain stamp (subst (λ (xs : List Stamp). Contains xs stamp) p.stamps c);
  late = λ stamp rest e late.
      let found = late_of keeps cover old.chain stamp rest e late in
      record { others = found.0; stamps_are = p.stamps ∙ found.1; were = found.2 };
  newest = λ stamp rest e some. let found = newest_of keeps cover old.chain stamp rest e some in (found.0, p.stamps ∙ found.1);
  second = λ stamp top rest e late why. let found = second_of keeps cover old.chain stamp top rest e late why in (found.0, p.stamps ∙ found.1);
}
