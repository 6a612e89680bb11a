-- A table that was just made keeps the rule, and a split keeps it.
use Rattle.std.proofs.Common.{◌≡◌, ◌≢◌, ℕ, zero, suc, ◌+◌, ◌*◌, refl, sym, ap, ◌∙◌, subst, ⊎_elim, inl, inr, Option, Some, None}
use Rattle.std.proofs.Common.{List, [], ◌∷◌, ◌++◌, map, length, get_or, set, length-set}
use mathlib.Core.Option.{some, some-injective, some-ne-none}
use lib.ListN.{get_elem?, length-map}
use Rattle.atomic_table.specs.Table.{Splits, opening}
use Rattle.atomic_table.proofs.Lists.{at_set, set_here, set_else, at_longer, at_map}
use Rattle.std.specs.declared.snapshot.Snapshot.{Snapshot}
use Rattle.hy_threads.specs.Knowledge.{Keeper, Visitor, Knowledge, First, Seated, keeper, visitor, kept_of, first_from, newly_seated, parent, child}
use Rattle.hy_threads.specs.Rule.{Slot, AreHome, IsOut, IsSo, IsAccounted}
use Rattle.hy_threads.proofs.Lists.{some_not_none, inside, put, put_here, put_else, at_new, from_map}
use Rattle.hy_threads.proofs.Slots.{in_slot}
use Rattle.hy_threads.proofs.KnowledgeStays.{first_not_seated, same_at, each_stays, stays_at_split}

module _ {S D : Type 0} (fact : List D → List S → Type 0) where
  beyond : (first v : Knowledge S D) (j : ℕ) → j ≢ 0 → get_elem? (first ∷ []) j ≡ some v → ⊥
  beyond first v zero other e = other refl
  beyond first v (suc j) other e = some-ne-none v (sym e)

  -- every word is 0, each part lies in its slot, and the first seat keeps all sessions
  pub make_keeps : (ws : List ℕ) (xs : List (Slot D)) (key : List (Snapshot S)) (parts : List D) (sessions : List S)
      → length ws ≡ 8 * length parts → length xs ≡ length parts → ((k : ℕ) → get_or ws k 0 ≡ 0) → AreHome xs parts
      → map kept_of key ≡ map Some sessions → fact parts sessions → IsAccounted fact (opening ws xs (first_from key))
  make_keeps ws xs key parts sessions wide deep zeros slots all h =
      let first : Knowledge S D = first_from key in record {
        parts = parts;
        sessions = sessions;
        kept = map kept_of key;
        owner = λ _. 0;
        fact_holds = h;
        word_each = wide;
        slot_each = length-map xs (λ (y : Slot D). some y) ∙ deep;
        each_part = λ k p e. let y = in_slot xs parts slots k p e in inl (zeros (8 * k), (y.0, at_map some xs k (Some y.0) y.1, y.2));
        each_seat = λ j v e. ⊎_elim
            (λ (t : (j ≡ 0) × (first ≡ v)). subst (λ (z : Knowledge S D). IsSo ws parts sessions (map kept_of key) (λ _. 0) j z) t.1 (t.0, refl))
            (λ (t : (j ≢ 0) × (get_elem? (first ∷ []) j ≡ some v)). absurd (beyond first v j t.0 t.1)) (at_set (first ∷ []) 0 j first v e);
        each_kept = λ i a e. from_map sessions i a (ap (λ l. get_elem? l i) (sym all) ∙ e);
        kept_each = ap length all ∙ length-map sessions Some;
      }

  -- the first seat makes the seat of the next session
  pub split_keeps : (id : ℕ) (v : Knowledge S D) (r₀ : Keeper S) (x : S) → v ≡ First r₀ → get_elem? r₀.kept r₀.made ≡ some (Some x)
      → Splits (IsAccounted fact) id v (parent v) (child v)
  split_keeps id v r₀ x is next s r at' =
      let n : ℕ = r₀.made in let at : get_elem? s.views id ≡ some (First r₀) = at' ∙ ap some is in let first = r.each_seat id (First r₀) at in
      let o : Visitor S D = visitor n x None [] in let w : Knowledge S D = First (keeper (n + 1) (set r₀.kept n None)) in
      let made : child v ≡ Seated o = ap child is ∙ ap (newly_seated n) next in let left : parent v ≡ w = ap parent is in
      let kept' : List (Option S) = set r.kept n None in let vs : List (Knowledge S D) = set s.views id w in
      let new : ℕ = length vs in let owner' = put r.owner n new in
      let next' : get_elem? r.kept n ≡ some (Some x) = ap (λ l. get_elem? l n) (sym first.1) ∙ next in
      let kept_here : get_elem? kept' n ≡ some None = set_here r.kept n None (inside r.kept n (Some x) next') in
      let apart : (m : ℕ) → get_elem? r.kept m ≡ some None → m ≢ n = λ m e same.
      some_not_none x (some-injective (Some x) None (sym next' ∙ (ap (get_elem? r.kept) (sym same) ∙ e))) in
      let still : (j : ℕ) (p : D) → IsOut s.words s.views r.owner j p → IsOut s.words (vs ++ Seated o ∷ []) owner' j p = λ j p h.
      let m : ℕ = h.0.number in
      let away : r.owner m ≢ id = λ e. first_not_seated r₀ h.0 (same_at s.views id (r.owner m) (First r₀) (Seated h.0) (sym e) at h.1) in
      let none_kept = (r.each_seat (r.owner m) (Seated h.0) h.1).2 in
      let there = at_longer vs (Seated o ∷ []) (r.owner m) (Seated h.0) (set_else s.views id (r.owner m) w away ∙ h.1) in
      (h.0, ap (get_elem? (vs ++ Seated o ∷ [])) (put_else r.owner n new m (apart m none_kept)) ∙ there, h.2, h.3) in
      let Views : Knowledge S D × Knowledge S D → Type 0 = λ z.
      IsAccounted fact record { words = s.words; homes = s.homes; views = set s.views id z.0 ++ z.1 ∷ [] } in
      subst Views (λ i. (sym left i, sym made i)) record {
        parts = r.parts;
        sessions = r.sessions;
        kept = kept';
        owner = owner';
        fact_holds = r.fact_holds;
        word_each = r.word_each;
        slot_each = r.slot_each;
        each_part = λ j p e. ⊎_elim (λ z. inl z) (λ (h : IsOut s.words s.views r.owner j p). inr (still j p h)) (r.each_part j p e);
        each_seat = λ j u e. ⊎_elim
            (λ (h : get_elem? vs j ≡ some u). each_stays (IsSo s.words r.parts r.sessions kept' owner') s.views id w
            (first.0, ap (λ l. set l n None) first.1)
            (λ i c other f. stays_at_split s.words r.parts r.sessions r.kept r.owner id n new i c apart first.0 other (r.each_seat i c f)) j u h)
            (λ (h : (Seated o ≡ u) × (j ≡ new)). subst (λ (z : Knowledge S D). IsSo s.words r.parts r.sessions kept' owner' j z) h.0
            (put_here r.owner n new ∙ sym h.1, r.each_kept n x next', kept_here, λ k p f. absurd (some_not_none (k, p) (sym f))))
            (at_new vs (Seated o) u j e);
        each_kept = λ i a e. ⊎_elim (λ (h : (i ≡ n) × (None ≡ Some a)). absurd (some_not_none a (sym h.1)))
            (λ (h : (i ≢ n) × (get_elem? r.kept i ≡ some (Some a))). r.each_kept i a h.1) (at_set r.kept n i None (Some a) e);
        kept_each = length-set r.kept n None ∙ r.kept_each;
      }
