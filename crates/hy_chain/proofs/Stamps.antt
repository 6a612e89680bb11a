-- The stamps of a pruned chain.
use Rattle.std.proofs.Common.{◌≡◌, ◌⊎◌, ℕ, zero, suc, ◌<◌, ◌≤◌, List, [], ◌∷◌, length, get_or, None, Some, refl, sym, ap, ◌∙◌, inl, inr, arith, subst, Contains}
use Rattle.std.specs.Prelude.{◌==◌, nat_lt}
use Rattle.std.proofs.lemmas.Bool.{ltb-true, and_parts}
use Rattle.hy_stamp.specs.declared.Stamp.{Stamp}
use Rattle.hy_prune.specs.declared.Cover.{Cover}
use Rattle.hy_prune.specs.Fates.{group}
use Rattle.hy_prune.specs.Cases.{fate_cases}
use Rattle.hy_chain.specs.Chains.{Undo, newest, Under}
use Rattle.hy_chain.specs.Pruning.{joined, pruned_behind, stamps_of, KeepsStamps}
use Rattle.hy_chain.proofs.Steps.{keep_step, merge_step, drop_step}
use Rattle.hy_chain.proofs.Views.{newest_behind, all_dropped}

behind : {A : Type 0} (x y : A) (xs : List A) → Contains xs y → Contains (x ∷ xs) y
behind x y xs c = (suc c.0, omega (arith, c.1), c.2)

first_of : {A : Type 0} (x : A) (xs : List A) → Contains (x ∷ xs) x
first_of x xs = (zero, omega arith, refl)

here_or : {A : Type 0} (x y : A) (xs : List A) → Contains (x ∷ xs) y → (x ≡ y) ⊎ Contains xs y
here_or {A} x y xs c = at c.0 c.1 c.2
  where
    at : (k : ℕ) → k < suc (length xs) → get_or (x ∷ xs) k y ≡ y → (x ≡ y) ⊎ Contains xs y
    at zero l e = inl e
    at (suc k) l e = inr (k, omega arith, e)

module _ {D : Type 0} (merged : D → D → D) (cover : Cover) where
  late_behind : (k : Undo D) (chain : List (Undo D)) → cover.next ≤ k.stamp.mark → pruned_behind merged cover (Some k) chain ≡ k ∷ pruned_behind merged cover None chain
  late_behind k [] late = refl
  late_behind k (q ∷ qs) late =
      let front = λ (rest : List (Undo D)). k ∷ rest in
      elim (fate_cases cover (Some k.stamp.mark) q.stamp.mark) [
        | inl w ↦
            keep_step merged cover (Some k) q qs w.is
            ∙ elim (fate_cases cover None q.stamp.mark) [
              | inl v ↦ ap front (sym (keep_step merged cover None q qs v.is))
              | inr other ↦ elim other [
                | inl v ↦ absurd (let e = v.same in cc)
                | inr v ↦ elim w.why [ inl is_late ↦ absurd (let o = v.old in omega arith) | inr some ↦ absurd (let o = v.free in let s = some.0 in omega arith) ]
              ]
            ]
        | inr other ↦ elim other [
          | inl w ↦
              let parts = and_parts (nat_lt k.stamp.mark cover.next) (group cover k.stamp.mark == group cover q.stamp.mark) w.same in
              let old = ltb-true k.stamp.mark cover.next parts.0 in absurd (omega (arith, old))
          | inr w ↦
              drop_step merged cover (Some k) q qs w.is
              ∙ (late_behind k qs late
              ∙ elim (fate_cases cover None q.stamp.mark) [
                | inl v ↦ elim v.why [ inl is_late ↦ absurd (let o = w.old in omega arith) | inr some ↦ absurd (let o = w.free in let s = some.0 in omega arith) ]
                | inr more ↦ elim more [
                  | inl v ↦ absurd (let e = v.same in cc)
                  | inr v ↦ ap front (sym (drop_step merged cover None q qs v.is))
                ]
              ])
        ]
      ]

  none_made : (k : Undo D) (chain : List (Undo D)) (stamp : Stamp) → Contains (stamps_of (pruned_behind merged cover (Some k) chain)) stamp → Contains (stamps_of (k ∷ chain)) stamp
  none_made k [] stamp c = c
  none_made k (q ∷ qs) stamp c =
      let in' = λ (xs : List (Undo D)). Contains (stamps_of xs) stamp in
      elim (fate_cases cover (Some k.stamp.mark) q.stamp.mark) [
        | inl w ↦
            elim (here_or k.stamp stamp (stamps_of (pruned_behind merged cover (Some q) qs)) (subst in' (keep_step merged cover (Some k) q qs w.is) c)) [
              | inl e ↦ subst (Contains (stamps_of (k ∷ q ∷ qs))) e (first_of k.stamp (stamps_of (q ∷ qs)))
              | inr rest ↦ behind k.stamp stamp (stamps_of (q ∷ qs)) (none_made q qs stamp rest)
            ]
        | inr other ↦ elim other [
          | inl w ↦ over k q qs (none_made (joined merged k q) qs stamp (subst in' (merge_step merged cover (Some k) q qs w.is) c))
          | inr w ↦ over k q qs (none_made k qs stamp (subst in' (drop_step merged cover (Some k) q qs w.is) c))
        ]
      ]
    where
      over : (k q : Undo D) (qs : List (Undo D)) → Contains (k.stamp ∷ stamps_of qs) stamp → Contains (stamps_of (k ∷ q ∷ qs)) stamp
      over k q qs found =
          elim (here_or k.stamp stamp (stamps_of qs) found) [
            | inl e ↦ subst (Contains (stamps_of (k ∷ q ∷ qs))) e (first_of k.stamp (stamps_of (q ∷ qs)))
            | inr rest ↦ behind k.stamp stamp (stamps_of (q ∷ qs)) (behind q.stamp stamp (stamps_of qs) rest)
          ]

  none_made_whole : (chain : List (Undo D)) (stamp : Stamp) → Contains (stamps_of (pruned_behind merged cover None chain)) stamp → Contains (stamps_of chain) stamp
  none_made_whole [] stamp c = c
  none_made_whole (q ∷ qs) stamp c =
      let in' = λ (xs : List (Undo D)). Contains (stamps_of xs) stamp in
      elim (fate_cases cover None q.stamp.mark) [
        | inl w ↦ none_made q qs stamp (subst in' (keep_step merged cover None q qs w.is) c)
        | inr other ↦ elim other [
          | inl w ↦ absurd (let e = w.same in cc)
          | inr w ↦ behind q.stamp stamp (stamps_of qs) (none_made_whole qs stamp (subst in' (drop_step merged cover None q qs w.is) c))
        ]
      ]

  kept_whole : (q : Undo D) (qs : List (Undo D)) → (cover.next ≤ q.stamp.mark) ⊎ (0 < group cover q.stamp.mark) → pruned_behind merged cover None (q ∷ qs) ≡ pruned_behind merged cover (Some q) qs
  kept_whole q qs why =
      elim (fate_cases cover None q.stamp.mark) [
        | inl w ↦ keep_step merged cover None q qs w.is
        | inr other ↦ elim other [
          | inl w ↦ absurd (let e = w.same in cc)
          | inr w ↦ elim why [ inl late ↦ absurd (let o = w.old in omega arith) | inr some ↦ absurd (let o = w.free in omega arith) ]
        ]
      ]

  gone_whole : (q : Undo D) (qs : List (Undo D)) → Under q.stamp.mark qs → q.stamp.mark < cover.next → group cover q.stamp.mark ≡ 0 → pruned_behind merged cover None (q ∷ qs) ≡ []
  gone_whole q qs u old free =
      elim (fate_cases cover None q.stamp.mark) [
        | inl w ↦ elim w.why [ inl late ↦ absurd (omega arith) | inr some ↦ absurd (let s = some.0 in omega arith) ]
        | inr other ↦ elim other [
          | inl w ↦ absurd (let e = w.same in cc)
          | inr w ↦ drop_step merged cover None q qs w.is ∙ all_dropped merged cover q.stamp.mark qs old free u
        ]
      ]

pub keeps_stamps : {D : Type 0} (merged : D → D → D) → KeepsStamps merged
keeps_stamps merged = record {
  made_none = λ cover chain stamp c. none_made_whole merged cover chain stamp c;
  late_head = λ cover undo chain late. kept_whole merged cover undo chain (inl late) ∙ late_behind merged cover undo chain late;
  newest_stays = λ cover undo chain some. ap newest (kept_whole merged cover undo chain (inr some)) ∙ newest_behind merged cover undo chain;
  all_go = λ cover undo chain falls old free. gone_whole merged cover undo chain falls.0 old free;
}
