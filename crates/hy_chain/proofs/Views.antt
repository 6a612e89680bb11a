-- Pruning keeps what safe viewers see.
use Rattle.std.proofs.Common.{◌≡◌, ◌≢◌, ◌⊎◌, ℕ, ◌<◌, ◌≤◌, Bool, true, false, List, [], ◌∷◌, get_or, None, Some, refl, sym, ap, ◌∙◌, cond, inl, inr, arith, Contains}
use Rattle.std.specs.Prelude.{◌==◌, ◌||◌, nat_lt}
use Rattle.std.specs.List.{AllByRecursion}
use Rattle.std.proofs.lemmas.Bool.{ltb-true, ltb-false, eqb-true, lt-ltb, le-ltb, ne_eqb, and_parts}
use Rattle.hy_stamp.specs.declared.Viewer.{Viewer}
use Rattle.hy_prune.specs.declared.Cover.{Cover}
use Rattle.hy_prune.specs.Fates.{group, is_same_group}
use Rattle.hy_prune.specs.Groups.{none_below, same_below, below_grows}
use Rattle.hy_prune.specs.Cases.{fate_cases}
use Rattle.hy_chain.specs.Chains.{Undo, stops, seen, newest, rival, rival_by, Under, Falls}
use Rattle.hy_chain.specs.Pruning.{joined, pruned_behind, KeepsViews}
use Rattle.hy_chain.proofs.Steps.{keep_step, merge_step, drop_step}

-- what differs only where a viewer goes on
goes_on : {X : Type 0} (b : Bool) (x y z : X) → (b ≡ false → y ≡ z) → cond b x y ≡ cond b x z
goes_on true x y z h = refl
goes_on false x y z h = h refl

or_right : (x y : Bool) → (x || y) ≡ false → y ≡ false
or_right true y h = absurd (cc)
or_right false y h = h

or_true : (x y : Bool) → y ≡ true → (x || y) ≡ true
or_true true y h = refl
or_true false y h = h

both_false : (x y : Bool) → x ≡ false → y ≡ false → (x || y) ≡ false
both_false true y h k = h
both_false false y h k = k

-- a viewer's start is above the mark of a record that is dropped
module _ (cover : Cover) (viewer : Viewer) (id : cover.next ≤ viewer.id) (start : Contains cover.starts viewer.start ⊎ (cover.next ≤ viewer.start)) where
  above_dropped : (time : ℕ) → time < cover.next → group cover time ≡ 0 → time ≢ viewer.start → time < viewer.start
  above_dropped time old free apart =
      elim start [
        | inl found ↦
            let le : time ≤ get_or cover.starts found.0 viewer.start = none_below cover.starts found.0 viewer.start time found.1 free in
            let e : get_or cover.starts found.0 viewer.start ≡ viewer.start = found.2 in
            omega (arith, apart)
        | inr late ↦ omega arith
      ]

  -- a viewer goes past a record that is merged, where it goes past the one that it is merged with
  past_merged : (newer time : ℕ) → time < newer → is_same_group cover (Some newer) time ≡ true → newer ≢ viewer.start → stops viewer newer ≡ false → stops viewer time ≡ false
  past_merged newer time older same apart goes =
      let parts = and_parts (nat_lt newer cover.next) (group cover newer == group cover time) same in
      let old : newer < cover.next = ltb-true newer cover.next parts.0 in
      let equal : group cover newer ≡ group cover time = eqb-true (group cover newer) (group cover time) parts.1 in
      let up : viewer.start ≤ newer = ltb-false newer viewer.start (or_right (newer == viewer.id) (nat_lt newer viewer.start) goes) in
      let less : viewer.start < newer = omega (arith, apart) in
      let own : (time == viewer.id) ≡ false = ne_eqb time viewer.id (λ e. absurd (omega (arith, e))) in
      elim start [
        | inl found ↦
            let e : get_or cover.starts found.0 viewer.start ≡ viewer.start = found.2 in
            let lower : get_or cover.starts found.0 viewer.start < time =
            same_below cover.starts found.0 viewer.start time newer found.1 (omega arith) (sym equal) (omega arith) in
            both_false (time == viewer.id) (nat_lt time viewer.start) own (le-ltb time viewer.start (omega arith))
        | inr late ↦ absurd (omega arith)
      ]

under_less : {D : Type 0} (a b : ℕ) (chain : List (Undo D)) → a ≤ b → Under a chain → Under b chain
under_less a b [] h u = tt
under_less a b (q ∷ qs) h u = (omega (arith, u.0), under_less a b qs h u.1)

-- who is later than a whole chain sees what is in place
stopped : {D B : Type 0} (applied : D → B → B) (viewer : Viewer) (base : B) (chain : List (Undo D)) → Under viewer.start chain → seen applied viewer base chain ≡ base
stopped applied viewer base [] u = refl
stopped {D} {B} applied viewer base (q ∷ qs) u =
    let s : stops viewer q.stamp.mark ≡ true = or_true (q.stamp.mark == viewer.id) (nat_lt q.stamp.mark viewer.start) (lt-ltb q.stamp.mark viewer.start u.0) in
    ap (λ (b : Bool). cond b base (seen applied viewer (applied q.image base) qs)) s

module _ {D B : Type 0} (applied : D → B → B) (merged : D → D → D)
    (merges : (newer older : D) (base : B) → applied (merged newer older) base ≡ applied older (applied newer base))
    (cover : Cover) (viewer : Viewer) (id : cover.next ≤ viewer.id) (start : Contains cover.starts viewer.start ⊎ (cover.next ≤ viewer.start)) where
  seen_behind : (k : Undo D) (chain : List (Undo D)) (base : B) → Under k.stamp.mark chain → Falls chain → k.stamp.mark ≢ viewer.start → AllByRecursion (λ undo. undo.stamp.mark ≢ viewer.start) chain
      → seen applied viewer base (pruned_behind merged cover (Some k) chain) ≡ seen applied viewer base (k ∷ chain)
  seen_behind k [] base u f a others = refl
  seen_behind k (q ∷ qs) base u f a others =
      let through = λ (xs : List (Undo D)). seen applied viewer base xs in
      elim (fate_cases cover (Some k.stamp.mark) q.stamp.mark) [
        | inl w ↦
            ap through (keep_step merged cover (Some k) q qs w.is)
            ∙ ap (λ (x : B). cond (stops viewer k.stamp.mark) base x) (seen_behind q qs (applied k.image base) f.0 f.1 others.0 others.1)
        | inr v ↦ elim v [
          | inl w ↦
              ap through (merge_step merged cover (Some k) q qs w.is)
              ∙ (seen_behind (joined merged k q) qs base u.1 f.1 a others.1
              ∙ goes_on (stops viewer k.stamp.mark) base _ _ (λ goes.
              let on = past_merged cover viewer id start k.stamp.mark q.stamp.mark u.0 w.same a goes in
              ap (λ (x : B). seen applied viewer x qs) (merges k.image q.image base)
              ∙ sym (ap (λ (b : Bool). cond b (applied k.image base) (seen applied viewer (applied q.image (applied k.image base)) qs)) on)))
          | inr w ↦
              ap through (drop_step merged cover (Some k) q qs w.is)
              ∙ (seen_behind k qs base u.1 f.1 a others.1
              ∙ ap (λ (x : B). cond (stops viewer k.stamp.mark) base x)
              (let over = above_dropped cover viewer id start q.stamp.mark w.old w.free others.0 in
              let rest : Under viewer.start qs = under_less q.stamp.mark viewer.start qs (omega arith) f.0 in
              stopped applied viewer (applied k.image base) qs rest
              ∙ sym (stopped applied viewer (applied k.image base) (q ∷ qs) (over, rest))))
        ]
      ]

  seen_whole : (chain : List (Undo D)) (base : B) → Falls chain → AllByRecursion (λ undo. undo.stamp.mark ≢ viewer.start) chain
      → seen applied viewer base (pruned_behind merged cover None chain) ≡ seen applied viewer base chain
  seen_whole [] base f others = refl
  seen_whole (q ∷ qs) base f others =
      let through = λ (xs : List (Undo D)). seen applied viewer base xs in
      elim (fate_cases cover None q.stamp.mark) [
        | inl w ↦ ap through (keep_step merged cover None q qs w.is) ∙ seen_behind q qs base f.0 f.1 others.0 others.1
        | inr v ↦ elim v [
          | inl w ↦ absurd (let e = w.same in cc)
          | inr w ↦
              let over = above_dropped cover viewer id start q.stamp.mark w.old w.free others.0 in
              let rest : Under viewer.start qs = under_less q.stamp.mark viewer.start qs (omega arith) f.0 in
              ap through (drop_step merged cover None q qs w.is)
              ∙ (seen_whole qs base f.1 others.1
              ∙ (stopped applied viewer base qs rest ∙ sym (stopped applied viewer base (q ∷ qs) (over, rest))))
        ]
      ]

-- a record that stays keeps its stamp
module _ {D : Type 0} (merged : D → D → D) (cover : Cover) where
  pub newest_behind : (k : Undo D) (chain : List (Undo D)) → newest (pruned_behind merged cover (Some k) chain) ≡ Some k.stamp
  newest_behind k [] = refl
  newest_behind k (q ∷ qs) =
      elim (fate_cases cover (Some k.stamp.mark) q.stamp.mark) [
        | inl w ↦ ap newest (keep_step merged cover (Some k) q qs w.is)
        | inr v ↦ elim v [
          | inl w ↦ ap newest (merge_step merged cover (Some k) q qs w.is) ∙ newest_behind (joined merged k q) qs
          | inr w ↦ ap newest (drop_step merged cover (Some k) q qs w.is) ∙ newest_behind k qs
        ]
      ]

  -- what is older than a record that no start is below goes too
  pub all_dropped : (time : ℕ) (chain : List (Undo D)) → time < cover.next → group cover time ≡ 0 → Under time chain → pruned_behind merged cover None chain ≡ []
  all_dropped time [] old free u = refl
  all_dropped time (q ∷ qs) old free u =
      let less = u.0 in
      let grows : group cover q.stamp.mark ≤ group cover time = below_grows cover.starts q.stamp.mark time (omega arith) in
      elim (fate_cases cover None q.stamp.mark) [
        | inl w ↦ elim w.why [ inl late ↦ absurd (omega arith) | inr some ↦ let h = some.0 in absurd (omega arith) ]
        | inr v ↦ elim v [
          | inl w ↦ absurd (let h = w.covered in omega arith)
          | inr w ↦ drop_step merged cover None q qs w.is ∙ all_dropped time qs old free u.1
        ]
      ]

module _ {D : Type 0} (merged : D → D → D) (cover : Cover) (viewer : Viewer) (id : cover.next ≤ viewer.id) (start : Contains cover.starts viewer.start ⊎ (cover.next ≤ viewer.start)) where
  rival_whole : (chain : List (Undo D)) → Falls chain → AllByRecursion (λ undo. undo.stamp.mark ≢ viewer.start) chain
      → rival viewer (pruned_behind merged cover None chain) ≡ rival viewer chain
  rival_whole [] f others = refl
  rival_whole (q ∷ qs) f others =
      elim (fate_cases cover None q.stamp.mark) [
        | inl w ↦ ap (rival viewer) (keep_step merged cover None q qs w.is) ∙ ap (rival_by viewer) (newest_behind merged cover q qs)
        | inr v ↦ elim v [
          | inl w ↦ absurd (let e = w.same in cc)
          | inr w ↦
              let over = above_dropped cover viewer id start q.stamp.mark w.old w.free others.0 in
              let none : stops viewer q.stamp.mark ≡ true =
              or_true (q.stamp.mark == viewer.id) (nat_lt q.stamp.mark viewer.start) (lt-ltb q.stamp.mark viewer.start over) in
              ap (rival viewer) (drop_step merged cover None q qs w.is)
              ∙ (ap (rival viewer) (all_dropped merged cover q.stamp.mark qs w.old w.free f.0)
              ∙ sym (ap (λ (b : Bool). cond b None (Some q.stamp.owner)) none))
        ]
      ]

-- what pruning keeps, on plain chains
pub keeps_views : {D B : Type 0} (applied : D → B → B) (merged : D → D → D)
    → ((newer older : D) (base : B) → applied (merged newer older) base ≡ applied older (applied newer base)) → KeepsViews applied merged
keeps_views applied merged merges cover chain viewer base falls safe = (
  seen_whole applied merged merges cover viewer safe.id safe.start chain base falls safe.apart,
  rival_whole merged cover viewer safe.id safe.start chain falls safe.apart,
)
