-- A take keeps the rule, whether it is won or lost.
use Rattle.std.proofs.Common.{◌≡◌, ◌≢◌, ℕ, ◌+◌, ◌*◌, ◌<◌, eqb, arith, refl, sym, ap, ◌∙◌, subst, ⊎_elim, inl, inr, Option, Some, None}
use Rattle.std.proofs.Common.{List, [], ◌∷◌, length, get_or, set, length-set, get_or-set_same, eq-eqb, ne_eqb}
use mathlib.Core.Logic.{dite}
use mathlib.Core.Option.{none, some, some-injective}
use native.Mathlib.Decide.{ℕ_discrete}
use lib.ListN.{get_elem?}
use lib.Seq.{set-get_or}
use prog.Atomic.{either}
use Rattle.atomic_table.specs.Table.{State, Me, step, keeps, takes, stepped, Allows, Act, Valid, carried_after}
use Rattle.atomic_table.proofs.Lists.{set_here, set_else}
use Rattle.crossbeam_utils.specs.Padded.{padded_value}
use Rattle.crossbeam_utils.specs.declared.cache_padded.CachePadded.{CachePadded}
use Rattle.hy_threads.specs.Laws.{NearFollows}
use Rattle.hy_threads.specs.Knowledge.{Visitor, Knowledge, Seated, holding, refused}
use Rattle.hy_threads.specs.Rule.{Slot, IsHome, IsOut, IsSo, IsAccounted, Took}
use Rattle.hy_threads.proofs.Lists.{some_not_none, held_inj, some_at, inside}
use Rattle.hy_threads.proofs.KnowledgeStays.{seated_inj, same_at, each_stays}
use Rattle.hy_threads.proofs.Moving.{move_keeps}

module _ {S D : Type 0} (fact : List D → List S → Type 0) (near : ℕ → S → D → Type 0) where
  -- what a take of the part k owes where its word was n
  abbrev Owed : (slots : ℕ) (id : ℕ) (me : Me (Slot D) (Knowledge S D)) (k x n : ℕ) (s : State (Slot D) (Knowledge S D)) → Type 0
  Owed slots id me k x n s = (w : Knowledge S D) × (a : Act (Slot D)) × Valid s.homes me.1 a
      × IsAccounted fact (stepped s (8 * k) (either (eqb n 0) x n) id me.1 w a) × Took near (step slots (8 * k) 0 x none) me n (w, carried_after me.1 a)

  -- the part was at home: it is out with the seat now
  take_won : NearFollows fact near → (slots id : ℕ) (me : Me (Slot D) (Knowledge S D)) (o : Visitor S D) (k x : ℕ)
      → me.0 ≡ Seated o → o.held ≡ None → me.1 ≡ [] → x ≡ 1 + o.number
      → (s : State (Slot D) (Knowledge S D)) (r : IsAccounted fact s) → get_elem? s.views id ≡ some (Seated o) → k < length r.parts
      → (p : D) → get_elem? r.parts k ≡ some p → get_or s.words (8 * k) 0 ≡ 0 → IsHome s.words s.homes k p → Owed slots id me k x (get_or s.words (8 * k) 0) s
  take_won law slots id me o k x is free bare x_is s r at low p p_at hit home =
      let n : ℕ = get_or s.words (8 * k) 0 in let mine = r.each_seat id (Seated o) at in let word_each = r.word_each in
      let y : CachePadded D = home.1.0 in let q : D = padded_value y in
      let o₂ : Visitor S D = holding o k q in let w : Knowledge S D = Seated o₂ in
      let there : get_elem? r.parts k ≡ some q = p_at ∙ ap some (sym home.1.2) in
      let word : get_or (set s.words (8 * k) x) (8 * k) 0 ≡ x = get_or-set_same s.words (8 * k) x 0 (omega arith) in
      let in_row : id < length s.views = inside s.views id (Seated o) at in
      let empty : (j : ℕ) (c : D) → ¬ (o.held ≡ Some (j, c)) = λ j c e. some_not_none (j, c) (sym e ∙ free) in (
        w,
        takes k (Some y),
        home.1.1,
        subst (λ b. IsAccounted fact (stepped s (8 * k) (either b x n) id me.1 w (takes k (Some y)))) (sym (eq-eqb n 0 hit))
            (move_keeps fact s r id o o₂ k x (set s.homes k none) r.parts r.sessions record {
              seat = at;
              number = refl;
              word_before = inl hit;
              held_before = λ i c _. empty i c;
              fact_after = r.fact_holds;
              parts_count = refl;
              homes_count = length-set s.homes k none;
              sessions_count = refl;
              other_parts = λ _ _. refl;
              other_homes = λ i other. set_else s.homes k i none other;
              other_sessions = λ _ _. refl;
              part_after = λ c e. inr (
                o₂,
                ap (get_elem? (set s.views id w)) mine.0 ∙ set_here s.views id w in_row,
                ap (λ (z : D). let m : Option (ℕ × D) = Some (k, z) in m) (some-injective q c (sym there ∙ e)),
                word ∙ x_is,
              );
              session_after = mine.1;
              held_after = λ j c e. let g = held_inj k j q c e in (
                ap (get_elem? r.parts) (sym g.0) ∙ (there ∙ ap some g.1),
                ap (λ (z : ℕ). get_or (set s.words (8 * k) x) (8 * z) 0) (sym g.0) ∙ (word ∙ x_is),
              );
            }),
        λ o' j is' at_j. let e : o ≡ o' = seated_inj o o' (sym is ∙ is') in let f : k ≡ j = omega (arith, at_j) in (
          (λ _. (
            y,
            (λ i. (Seated (holding (e i) (f i) q), (f i, Some y) ∷ bare i)),
            law r.parts r.sessions o'.number j o'.session q r.fact_holds
                (ap (λ (z : Visitor S D). get_elem? r.sessions z.number) (sym e) ∙ (mine.1 ∙ ap (λ (z : Visitor S D). some z.session) e))
                (ap (get_elem? r.parts) (sym f) ∙ there),
          )),
          λ miss. absurd (miss hit),
        ),
      )

  -- the part was out: nothing changes but the seat's refusals
  take_lost : (slots id : ℕ) (me : Me (Slot D) (Knowledge S D)) (o : Visitor S D) (k x : ℕ) → me.0 ≡ Seated o → o.held ≡ None
      → (s : State (Slot D) (Knowledge S D)) (r : IsAccounted fact s) → get_elem? s.views id ≡ some (Seated o)
      → get_or s.words (8 * k) 0 ≢ 0 → Owed slots id me k x (get_or s.words (8 * k) 0) s
  take_lost slots id me o k x is free s r at miss =
      let n : ℕ = get_or s.words (8 * k) 0 in let mine = r.each_seat id (Seated o) at in let w : Knowledge S D = Seated (refused o k 1) in (
        w,
        keeps,
        tt,
        subst (λ b. IsAccounted fact (stepped s (8 * k) (either b x n) id me.1 w keeps)) (sym (ne_eqb n 0 miss))
            (subst (λ (ws : List ℕ). IsAccounted fact record { words = ws; homes = s.homes; views = set s.views id w }) (sym (set-get_or s.words (8 * k) 0)) record {
              parts = r.parts;
              sessions = r.sessions;
              kept = r.kept;
              owner = r.owner;
              fact_holds = r.fact_holds;
              word_each = r.word_each;
              slot_each = r.slot_each;
              each_part = λ j p e. ⊎_elim (λ z. inl z) (λ (h : IsOut s.words s.views r.owner j p).
                  let m : ℕ = r.owner h.0.number in
                  let away : m ≢ id = λ e'. let same = seated_inj h.0 o (same_at s.views m id (Seated h.0) (Seated o) e' h.1 at) in
                  some_not_none (j, p) (sym h.2 ∙ (ap (λ (z : Visitor S D). z.held) same ∙ free)) in
                  inr (h.0, set_else s.views id m w away ∙ h.1, h.2, h.3)) (r.each_part j p e);
              each_seat = each_stays (IsSo s.words r.parts r.sessions r.kept r.owner) s.views id w mine (λ j v _ e. r.each_seat j v e);
              each_kept = r.each_kept;
              kept_each = r.kept_each;
            }),
        λ o' j is' at_j. let e : o ≡ o' = seated_inj o o' (sym is ∙ is') in let f : k ≡ j = omega (arith, at_j) in
            ((λ hit. absurd (miss hit)), λ _. (λ i. (Seated (refused (e i) (f i) 1), me.1))),
      )

  -- one compare-and-exchange of the part's word from 0, by the session's number and 1
  pub take_keeps : NearFollows fact near → (slots id : ℕ) (me : Me (Slot D) (Knowledge S D)) (o : Visitor S D) (k x : ℕ)
      → me.0 ≡ Seated o → o.held ≡ None → me.1 ≡ [] → k < slots → x ≡ 1 + o.number
      → Allows (IsAccounted fact) slots id me (8 * k) (λ n. either (eqb n 0) x n) (Took near (step slots (8 * k) 0 x none) me)
  take_keeps law slots id me o k x is free bare below x_is s r deep at' _ =
      let n : ℕ = get_or s.words (8 * k) 0 in let at : get_elem? s.views id ≡ some (Seated o) = at' ∙ ap some is in let slot_each = r.slot_each in
      dite (ℕ_discrete n 0)
      (λ hit. let p = some_at r.parts k (omega arith) in
      ⊎_elim (λ (home : IsHome s.words s.homes k p.0). take_won law slots id me o k x is free bare x_is s r at (inside r.parts k p.0 p.1) p.0 p.1 hit home)
      (λ (out : IsOut s.words s.views r.owner k p.0). let taken = out.3 in absurd (omega arith)) (r.each_part k p.0 p.1))
      (λ miss. take_lost slots id me o k x is free s r at miss)
