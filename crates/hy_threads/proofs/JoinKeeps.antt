-- A join keeps the rule, and what the rule says when the table is closed.
use Rattle.std.proofs.Common.{◌≡◌, ◌≢◌, ℕ, ◌<◌, arith, sym, ap, ◌∙◌, subst, ⊎_elim, inl, inr, Option, Some, None, List, map, length, set, length-set}
use mathlib.Core.Option.{some, some-injective}
use lib.ListN.{get_elem?, length-map}
use Rattle.atomic_table.specs.Table.{Joins, Final, Seen}
use Rattle.atomic_table.proofs.Lists.{at_set, set_else}
use Rattle.hy_threads.specs.Knowledge.{Keeper, Visitor, Knowledge, Spent, First, Seated, keeper, joined}
use Rattle.hy_threads.specs.Rule.{Slot, AreHome, IsHome, IsOut, IsSo, IsAccounted}
use Rattle.hy_threads.proofs.Lists.{some_inj, some_not_none, some_at, inside, same_list, at_some}
use Rattle.hy_threads.proofs.Slots.{in_slots}
use Rattle.hy_threads.proofs.KnowledgeStays.{seated_inj, first_not_seated, same_at, each_stays, stays_at_join}

module _ {S D : Type 0} (fact : List D → List S → Type 0) where
  -- a session's seat that has no part gives its session back to the first
  pub join_keeps : (id : ℕ) (v : Knowledge S D) (r₀ : Keeper S) (other : ℕ) (u : Knowledge S D) (o : Visitor S D)
      → v ≡ First r₀ → u ≡ Seated o → o.held ≡ None → Joins (IsAccounted fact) id v other u (joined v u) Spent
  join_keeps id v r₀ other u o is sat free s r at' apart there' =
      let n : ℕ = o.number in let at : get_elem? s.views id ≡ some (First r₀) = at' ∙ ap some is in let first = r.each_seat id (First r₀) at in
      let w : Knowledge S D = First (keeper r₀.made (set r₀.kept n (Some o.session))) in let left : joined v u ≡ w = λ i. joined (is i) (sat i) in
      let there : get_elem? s.views other ≡ some (Seated o) = sym (set_else s.views id other (joined v u) apart) ∙ (there' ∙ ap some sat) in
      let mine = r.each_seat other (Seated o) there in
      let kept' : List (Option S) = set r.kept n (Some o.session) in let vs : List (Knowledge S D) = set s.views id w in
      let still : (j : ℕ) (p : D) → IsOut s.words s.views r.owner j p → IsOut s.words (set vs other Spent) r.owner j p = λ j p h.
      let m : ℕ = r.owner h.0.number in
      let away : m ≢ id = λ e. first_not_seated r₀ h.0 (same_at s.views id m (First r₀) (Seated h.0) (sym e) at h.1) in
      let far : m ≢ other = λ e.
      let same = seated_inj h.0 o (same_at s.views m other (Seated h.0) (Seated o) e h.1 there) in
      some_not_none (j, p) (sym h.2 ∙ (ap (λ (z : Visitor S D). z.held) same ∙ free)) in
      (h.0, set_else vs other m Spent far ∙ (set_else s.views id m w away ∙ h.1), h.2, h.3) in
      let Views : Knowledge S D → Type 0 = λ z. IsAccounted fact record { words = s.words; homes = s.homes; views = set (set s.views id z) other Spent } in
      subst Views (sym left) record {
        parts = r.parts;
        sessions = r.sessions;
        kept = kept';
        owner = r.owner;
        fact_holds = r.fact_holds;
        word_each = r.word_each;
        slot_each = r.slot_each;
        each_part = λ j p e. ⊎_elim (λ z. inl z) (λ (h : IsOut s.words s.views r.owner j p). inr (still j p h)) (r.each_part j p e);
        each_seat = λ j c e. each_stays (IsSo s.words r.parts r.sessions kept' r.owner) vs other Spent tt
            (λ i d far f. ⊎_elim
            (λ (h : (i ≡ id) × (w ≡ d)). subst (λ (z : Knowledge S D). IsSo s.words r.parts r.sessions kept' r.owner i z) h.1
            (h.0 ∙ first.0, ap (λ l. set l n (Some o.session)) first.1))
            (λ (h : (i ≢ id) × (get_elem? s.views i ≡ some d)). stays_at_join s.words r.parts r.sessions r.kept r.owner id other n (Some o.session) i d
            mine.0 first.0 h.0 far (r.each_seat i d h.1)) (at_set s.views id i w d f))
            j c e;
        each_kept = λ i a e. ⊎_elim
            (λ (h : (i ≡ n) × (Some o.session ≡ Some a)). ap (get_elem? r.sessions) h.0 ∙ (mine.1 ∙ ap some (some_inj o.session a h.1)))
            (λ (h : (i ≢ n) × (get_elem? r.kept i ≡ some (Some a))). r.each_kept i a h.1) (at_set r.kept n i (Some o.session) (Some a) e);
        kept_each = length-set r.kept n (Some o.session) ∙ r.kept_each;
      }

  -- what `close` finds: every part at home, and the fact of them and of the sessions that the first seat has
  abbrev pub Closes : List S → List (Slot D) → Type 0
  Closes sessions slots = (parts : List D) × fact parts sessions × AreHome slots parts

  -- where the first seat keeps each session, no part is out
  none_is_out : (final : List S) (m : ℕ) → m < length final → get_elem? (map Some final) m ≡ some None → ⊥
  none_is_out final m low e = let c = some_at final m low in some_not_none c.0 (some-injective (Some c.0) None (sym (at_some final m c.0 c.1) ∙ e))

  pub close_tells : (id : ℕ) (r₀ : Keeper S) (v : Knowledge S D) (final : List S) (ws : List ℕ) (xs : List (Slot D))
      → v ≡ First r₀ → r₀.kept ≡ map Some final → Final (Seen (IsAccounted fact) id v) ws xs → Closes final xs
  close_tells id r₀ v final ws xs is all f =
      let s = f.0 in let r = f.1.0 in let first = r.each_seat id (First r₀) (f.1.1 ∙ ap some is) in
      let kept : r.kept ≡ map Some final = sym first.1 ∙ all in
      let same : r.sessions ≡ final = same_list final r.sessions (sym r.kept_each ∙ (ap length kept ∙ length-map final Some))
      (λ i a e. r.each_kept i a (ap (λ l. get_elem? l i) kept ∙ at_some final i a e)) in (
        r.parts,
        subst (fact r.parts) same r.fact_holds,
        in_slots xs r.parts (sym f.3 ∙ r.slot_each) (λ k p e. ⊎_elim
            (λ (h : IsHome s.words s.homes k p). (h.1.0, f.4 k (Some h.1.0) h.1.1, h.1.2))
            (λ (h : IsOut s.words s.views r.owner k p).
            let m : ℕ = h.0.number in let g = r.each_seat (r.owner m) (Seated h.0) h.1 in
            let low : m < length final = let a = inside r.kept m None g.2 in let b = ap length kept ∙ length-map final Some in omega arith in
            absurd (none_is_out final m low (ap (λ l. get_elem? l m) (sym kept) ∙ g.2)))
            (r.each_part k p e)),
      )
