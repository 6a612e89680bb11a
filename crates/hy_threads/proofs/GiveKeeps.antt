-- A give keeps the rule where it changes nothing, or by an event.
use Rattle.std.proofs.Common.{◌≡◌, ◌⊎◌, ℕ, ◌*◌, ◌<◌, arith, refl, sym, ap, ◌∙◌, subst, inl, inr, Option, Some}
use Rattle.std.proofs.Common.{List, [], ◌∷◌, length, set, length-set, get_or-set_same}
use mathlib.Core.Option.{none, some, some-injective}
use lib.ListN.{get_elem?}
use Rattle.atomic_table.specs.Table.{Me, step, gives, stepped, Allows, rest}
use Rattle.atomic_table.proofs.Lists.{set_here, set_else, set_again}
use Rattle.crossbeam_utils.specs.Padded.{padded_value}
use Rattle.crossbeam_utils.specs.declared.cache_padded.CachePadded.{CachePadded}
use Rattle.hy_threads.specs.Laws.{EventKeeps}
use Rattle.hy_threads.specs.Knowledge.{Visitor, Knowledge, Seated, settled}
use Rattle.hy_threads.specs.Rule.{Slot, IsAccounted, Gave}
use Rattle.hy_threads.proofs.Lists.{some_inj, some_not_none, held_inj, inside}
use Rattle.hy_threads.proofs.KnowledgeStays.{seated_inj}
use Rattle.hy_threads.proofs.Moving.{move_keeps}

module _ {S D : Type 0} (fact : List D → List S → Type 0) where
  -- what a give may do to the part k and the session i
  abbrev pub May : ℕ → S → ℕ → D → S → D → Type 0
  May i s k p t q = (parts : List D) (sessions : List S) → fact parts sessions → get_elem? sessions i ≡ some s → get_elem? parts k ≡ some p
      → fact (set parts k q) (set sessions i t)

  -- an event, or no change, may be given
  pub may_give : (event : ℕ → S → D → S → D → Type 0) → EventKeeps fact event → (i : ℕ) (s : S) (k : ℕ) (p : D) (t t' : S) (q q' : D)
      → event k s p t q ⊎ ((t ≡ s) × (q ≡ p)) → t' ≡ t → q' ≡ q → May i s k p t' q'
  may_give event law i s k p t t' q q' (inl e) same_t same_q parts sessions h at_s at_p =
      subst (λ (z : S × D). fact (set parts k z.1) (set sessions i z.0)) (λ j. (sym same_t j, sym same_q j)) (law parts sessions i k s t p q h at_s at_p e)
  may_give event law i s k p t t' q q' (inr e) same_t same_q parts sessions h at_s at_p =
      let part : set parts k q' ≡ parts = ap (set parts k) (same_q ∙ e.1) ∙ set_again parts k p at_p in
      let session' : set sessions i t' ≡ sessions = ap (set sessions i) (same_t ∙ e.0) ∙ set_again sessions i s at_s in
      subst (λ (z : List D × List S). fact z.0 z.1) (λ j. (sym part j, sym session' j)) h

  -- the word of the part k becomes 0
  pub give_keeps : (slots id : ℕ) (me : Me (Slot D) (Knowledge S D)) (o : Visitor S D) (k : ℕ) (p : D) (y : CachePadded D) (t : S) (told : Option S)
      → me.0 ≡ Seated o → o.held ≡ Some (k, p) → me.1 ≡ (k, Some y) ∷ [] → told ≡ Some t → May o.number o.session k p t (padded_value y)
      → Allows (IsAccounted fact) slots id me (8 * k) (λ _. 0) (λ _. Gave told (step slots (8 * k) 0 0 none) me 0)
  give_keeps slots id me o k p y t told is held carried by may s r deep at' _ =
      let at : get_elem? s.views id ≡ some (Seated o) = at' ∙ ap some is in
      let mine = r.each_seat id (Seated o) at in let taken = mine.3 k p held in let word_each = r.word_each in let slot_each = r.slot_each in
      let q : D = padded_value y in let o₂ : Visitor S D = settled o t in let w : Knowledge S D = Seated o₂ in
      let low : k < length r.parts = inside r.parts k p taken.0 in let slow : o.number < length r.sessions = inside r.sessions o.number o.session mine.1 in
      let homes' = set s.homes k (some (Some y)) in (
        w,
        gives,
        tt,
        subst (λ (cs : List (ℕ × Slot D)). IsAccounted fact (stepped s (8 * k) 0 id cs w gives)) (sym carried)
            (move_keeps fact s r id o o₂ k 0 homes' (set r.parts k q) (set r.sessions o.number t) record {
              seat = at;
              number = refl;
              word_before = inr taken.1;
              held_before = λ i c other e. other (sym (held_inj k i p c (sym held ∙ e)).0);
              fact_after = may r.parts r.sessions r.fact_holds mine.1 taken.0;
              parts_count = length-set r.parts k q;
              homes_count = length-set s.homes k (some (Some y));
              sessions_count = length-set r.sessions o.number t;
              other_parts = λ i other. set_else r.parts k i q other;
              other_homes = λ i other. set_else s.homes k i (some (Some y)) other;
              other_sessions = λ i other. set_else r.sessions o.number i t other;
              part_after = λ c e. inl (
                get_or-set_same s.words (8 * k) 0 0 (omega arith),
                (y, set_here s.homes k (some (Some y)) (omega arith), some-injective q c (sym (set_here r.parts k q low) ∙ e)),
              );
              session_after = set_here r.sessions o.number t slow;
              held_after = λ j c e. absurd (some_not_none (j, c) (sym e));
            }),
        λ o' t' is' by'. let e : o ≡ o' = seated_inj o o' (sym is ∙ is') in let f : t ≡ t' = some_inj t t' (sym by ∙ by') in
            (λ i. (Seated (settled (e i) (f i)), rest me.1)),
      )
