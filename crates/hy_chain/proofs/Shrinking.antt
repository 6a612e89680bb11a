-- Pruning leaves few records, and their marks fall.
use Rattle.std.proofs.Common.{◌≡◌, ℕ, suc, ◌<◌, ◌≤◌, Bool, true, false, List, [], ◌∷◌, length, None, Some, refl, sym, ap, ◌∙◌, cond, inl, inr, arith, subst}
use Rattle.std.specs.Prelude.{◌==◌, ◌&&◌, nat_lt}
use Rattle.std.proofs.lemmas.Bool.{cases_eq, cases_lt, ltb-true, lt-ltb, le-ltb, eq-eqb, and_parts, true≢false}
use Rattle.std.proofs.lemmas.List.Sums.{sum_by-cons}
use Rattle.hy_prune.specs.declared.Cover.{Cover}
use Rattle.hy_prune.specs.Fates.{group, is_same_group}
use Rattle.hy_prune.specs.Groups.{below_grows, below_length}
use Rattle.hy_prune.specs.Cases.{fate_cases}
use Rattle.hy_chain.specs.Chains.{Undo, Under, Falls}
use Rattle.hy_chain.specs.Pruning.{joined, pruned_behind, count_old, Shrinks}
use Rattle.hy_chain.proofs.Steps.{keep_step, merge_step, drop_step}

-- one more record that is old, or one that isn't
count_more : {D : Type 0} (cover : Cover) (k : Undo D) (chain : List (Undo D)) → k.stamp.mark < cover.next → count_old cover (k ∷ chain) ≡ suc (count_old cover chain)
count_more {D} cover k chain h =
    let e = sum_by-cons (λ (undo : Undo D). cond (nat_lt undo.stamp.mark cover.next) 1 0) k chain in
    let c : ◌≡◌ {A = ℕ} (cond (nat_lt k.stamp.mark cover.next) 1 0) 1 = ap (λ (b : Bool). cond b 1 0) (lt-ltb k.stamp.mark cover.next h) in
    omega (arith, e, c)

count_same : {D : Type 0} (cover : Cover) (k : Undo D) (chain : List (Undo D)) → cover.next ≤ k.stamp.mark → count_old cover (k ∷ chain) ≡ count_old cover chain
count_same {D} cover k chain h =
    let e = sum_by-cons (λ (undo : Undo D). cond (nat_lt undo.stamp.mark cover.next) 1 0) k chain in
    let c : ◌≡◌ {A = ℕ} (cond (nat_lt k.stamp.mark cover.next) 1 0) 0 = ap (λ (b : Bool). cond b 1 0) (le-ltb k.stamp.mark cover.next h) in
    omega (arith, e, c)

both_true : (x y : Bool) → x ≡ true → y ≡ true → (x && y) ≡ true
both_true true y h k = k
both_true false y h k = h

-- a record that stays beside an old one of the cover is of an earlier group
earlier_group : (cover : Cover) (newer time : ℕ) → newer < cover.next → time < newer → is_same_group cover (Some newer) time ≡ false → group cover time < group cover newer
earlier_group cover newer time old less other =
    let grows : group cover time ≤ group cover newer = below_grows cover.starts time newer (omega arith) in
    elim (cases_eq (group cover newer) (group cover time)) [
      | inl same ↦
          let is : is_same_group cover (Some newer) time ≡ true =
          both_true _ _ (lt-ltb newer cover.next old) (eq-eqb (group cover newer) (group cover time) same) in
          absurd (true≢false (sym is ∙ other))
      | inr differs ↦ omega (arith, differs)
    ]

module _ {D : Type 0} (merged : D → D → D) (cover : Cover) where
  count_behind : (k : Undo D) (chain : List (Undo D)) → k.stamp.mark < cover.next → 0 < group cover k.stamp.mark → Under k.stamp.mark chain → Falls chain
      → count_old cover (pruned_behind merged cover (Some k) chain) ≤ group cover k.stamp.mark
  count_behind k [] old some u f = let e = count_more cover k [] old in let z : ◌≡◌ {A = ℕ} (count_old {D = D} cover []) 0 = refl in omega (arith, e, z)
  count_behind k (q ∷ qs) old some u f =
      elim (fate_cases cover (Some k.stamp.mark) q.stamp.mark) [
        | inl w ↦
            let step = ap (count_old cover) (keep_step merged cover (Some k) q qs w.is) in
            let e = count_more cover k (pruned_behind merged cover (Some q) qs) old in
            let less = u.0 in
            elim w.why [
              | inl late ↦ absurd (omega arith)
              | inr why ↦
                  let rest = count_behind q qs (omega arith) why.0 f.0 f.1 in
                  let earlier = earlier_group cover k.stamp.mark q.stamp.mark old less why.1 in
                  omega (arith, step, e, rest, earlier)
            ]
        | inr v ↦ elim v [
          | inl w ↦ let step = ap (count_old cover) (merge_step merged cover (Some k) q qs w.is) in
              let rest = count_behind (joined merged k q) qs old some u.1 f.1 in omega (arith, step, rest)
          | inr w ↦ let step = ap (count_old cover) (drop_step merged cover (Some k) q qs w.is) in
              let rest = count_behind k qs old some u.1 f.1 in omega (arith, step, rest)
        ]
      ]

  count_late : (k : Undo D) (chain : List (Undo D)) → cover.next ≤ k.stamp.mark → Under k.stamp.mark chain → Falls chain
      → count_old cover (pruned_behind merged cover (Some k) chain) ≤ length cover.starts
  count_late k [] late u f = let e = count_same cover k [] late in let z : ◌≡◌ {A = ℕ} (count_old {D = D} cover []) 0 = refl in omega (arith, e, z)
  count_late k (q ∷ qs) late u f =
      elim (fate_cases cover (Some k.stamp.mark) q.stamp.mark) [
        | inl w ↦
            let step = ap (count_old cover) (keep_step merged cover (Some k) q qs w.is) in
            let e = count_same cover k (pruned_behind merged cover (Some q) qs) late in
            elim w.why [
              | inl later ↦ let rest = count_late q qs later f.0 f.1 in omega (arith, step, e, rest)
              | inr why ↦
                  elim (cases_lt q.stamp.mark cover.next) [
                    | inl old ↦
                        let rest = count_behind q qs old why.0 f.0 f.1 in
                        let most = below_length cover.starts q.stamp.mark in
                        omega (arith, step, e, rest, most)
                    | inr later ↦ let rest = count_late q qs later f.0 f.1 in omega (arith, step, e, rest)
                  ]
            ]
        | inr v ↦ elim v [
          | inl w ↦
              let parts = and_parts (nat_lt k.stamp.mark cover.next) (group cover k.stamp.mark == group cover q.stamp.mark) w.same in
              let old = ltb-true k.stamp.mark cover.next parts.0 in absurd (omega (arith, old))
          | inr w ↦ let step = ap (count_old cover) (drop_step merged cover (Some k) q qs w.is) in
              let rest = count_late k qs late u.1 f.1 in omega (arith, step, rest)
        ]
      ]

  count_whole : (chain : List (Undo D)) → Falls chain → count_old cover (pruned_behind merged cover None chain) ≤ length cover.starts
  count_whole [] f = let z : ◌≡◌ {A = ℕ} (count_old {D = D} cover []) 0 = refl in omega (arith, z)
  count_whole (q ∷ qs) f =
      elim (fate_cases cover None q.stamp.mark) [
        | inl w ↦
            let step = ap (count_old cover) (keep_step merged cover None q qs w.is) in
            elim (cases_lt q.stamp.mark cover.next) [
              | inl old ↦
                  elim w.why [
                    | inl late ↦ absurd (omega arith)
                    | inr why ↦
                        let rest = count_behind q qs old why.0 f.0 f.1 in
                        let most = below_length cover.starts q.stamp.mark in
                        omega (arith, step, rest, most)
                  ]
              | inr late ↦ let rest = count_late q qs late f.0 f.1 in omega (arith, step, rest)
            ]
        | inr v ↦ elim v [
          | inl w ↦ absurd (let e = w.same in cc)
          | inr w ↦ let step = ap (count_old cover) (drop_step merged cover None q qs w.is) in
              let rest = count_whole qs f.1 in omega (arith, step, rest)
        ]
      ]

  under_behind : (time : ℕ) (k : Undo D) (chain : List (Undo D)) → k.stamp.mark < time → Under time chain → Under time (pruned_behind merged cover (Some k) chain)
  under_behind time k [] less u = (less, tt)
  under_behind time k (q ∷ qs) less u =
      elim (fate_cases cover (Some k.stamp.mark) q.stamp.mark) [
        | inl w ↦ subst (Under time) (sym (keep_step merged cover (Some k) q qs w.is)) (less, under_behind time q qs u.0 u.1)
        | inr v ↦ elim v [
          | inl w ↦ subst (Under time) (sym (merge_step merged cover (Some k) q qs w.is)) (under_behind time (joined merged k q) qs less u.1)
          | inr w ↦ subst (Under time) (sym (drop_step merged cover (Some k) q qs w.is)) (under_behind time k qs less u.1)
        ]
      ]

  falls_behind : (k : Undo D) (chain : List (Undo D)) → Under k.stamp.mark chain → Falls chain → Falls (pruned_behind merged cover (Some k) chain)
  falls_behind k [] u f = (tt, tt)
  falls_behind k (q ∷ qs) u f =
      elim (fate_cases cover (Some k.stamp.mark) q.stamp.mark) [
        | inl w ↦ subst Falls (sym (keep_step merged cover (Some k) q qs w.is)) (under_behind k.stamp.mark q qs u.0 u.1, falls_behind q qs f.0 f.1)
        | inr v ↦ elim v [
          | inl w ↦ subst Falls (sym (merge_step merged cover (Some k) q qs w.is)) (falls_behind (joined merged k q) qs u.1 f.1)
          | inr w ↦ subst Falls (sym (drop_step merged cover (Some k) q qs w.is)) (falls_behind k qs u.1 f.1)
        ]
      ]

  falls_whole : (chain : List (Undo D)) → Falls chain → Falls (pruned_behind merged cover None chain)
  falls_whole [] f = tt
  falls_whole (q ∷ qs) f =
      elim (fate_cases cover None q.stamp.mark) [
        | inl w ↦ subst Falls (sym (keep_step merged cover None q qs w.is)) (falls_behind q qs f.0 f.1)
        | inr v ↦ elim v [
          | inl w ↦ absurd (let e = w.same in cc)
          | inr w ↦ subst Falls (sym (drop_step merged cover None q qs w.is)) (falls_whole qs f.1)
        ]
      ]

-- what pruning leaves, on plain chains
pub shrinks : {D : Type 0} (merged : D → D → D) → Shrinks merged
shrinks merged cover chain falls = (count_whole merged cover chain falls, falls_whole merged cover chain falls)
