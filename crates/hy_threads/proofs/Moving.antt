-- A take that is won and a give are moves: a step of one seat on the word of one part, which may change that part and the seat's own session.
use Rattle.std.proofs.Common.{◌≡◌, ◌≢◌, ◌⊎◌, ℕ, ◌+◌, ◌*◌, sym, ap, ◌∙◌, subst, inl, inr, Some, None}
use Rattle.std.proofs.Common.{List, length, get_or, set, length-set, get_or-set_other}
use mathlib.Core.Logic.{dite}
use mathlib.Core.Option.{some, some-injective}
use mathlib.Core.Option as maybe
use native.Mathlib.Decide.{ℕ_discrete}
use lib.ListN.{get_elem?}
use Rattle.atomic_table.specs.Table.{State}
use Rattle.atomic_table.proofs.Lists.{set_else}
use Rattle.hy_threads.specs.Knowledge.{Visitor, Knowledge, Seated}
use Rattle.hy_threads.specs.Rule.{Slot, IsHomeOrOut, IsSo, IsAccounted}
use Rattle.hy_threads.proofs.Lists.{some_not_none, words_apart}
use Rattle.hy_threads.proofs.KnowledgeStays.{seated_inj, same_at, each_stays, others}

abbrev pub Homes : Type 0 → Type 0
Homes D = List (maybe.Option (Slot D))

-- the seat id becomes o' for o, the word of the part k becomes x, and these are the slots, the parts and the sessions after
pub record Move {S D : Type 0} (fact : List D → List S → Type 0) (s : State (Slot D) (Knowledge S D)) (r : IsAccounted fact s) (id : ℕ)
    (o o' : Visitor S D) (k x : ℕ) (homes' : Homes D) (parts' : List D) (sessions' : List S) : Type 0 where
  pub seat : get_elem? s.views id ≡ some (Seated o)
  pub number : o'.number ≡ o.number
  pub word_before : (get_or s.words (8 * k) 0 ≡ 0) ⊎ (get_or s.words (8 * k) 0 ≡ 1 + o.number)
  pub held_before : (i : ℕ) (q : D) → i ≢ k → ¬ (o.held ≡ Some (i, q))
  pub fact_after : fact parts' sessions'
  pub parts_count : length parts' ≡ length r.parts
  pub homes_count : length homes' ≡ length s.homes
  pub sessions_count : length sessions' ≡ length r.sessions
  pub other_parts : (i : ℕ) → i ≢ k → get_elem? parts' i ≡ get_elem? r.parts i
  pub other_homes : (i : ℕ) → i ≢ k → get_elem? homes' i ≡ get_elem? s.homes i
  pub other_sessions : (i : ℕ) → i ≢ o.number → get_elem? sessions' i ≡ get_elem? r.sessions i
  pub part_after : (p : D) → get_elem? parts' k ≡ some p → IsHomeOrOut (set s.words (8 * k) x) homes' (set s.views id (Seated o')) r.owner k p
  pub session_after : get_elem? sessions' o.number ≡ some o'.session
  pub held_after : (j : ℕ) (p : D) → o'.held ≡ Some (j, p) → (get_elem? parts' j ≡ some p) × (get_or (set s.words (8 * k) x) (8 * j) 0 ≡ 1 + o.number)

module _ {S D : Type 0} (fact : List D → List S → Type 0) where
  -- a part that is not k
  parts_stay : (s : State (Slot D) (Knowledge S D)) (owner : ℕ → ℕ) (id k x j : ℕ) (homes' : Homes D) (o : Visitor S D) (w : Knowledge S D) (p : D)
      → get_elem? s.views id ≡ some (Seated o) → ((i : ℕ) (q : D) → i ≢ k → ¬ (o.held ≡ Some (i, q)))
      → j ≢ k → get_elem? homes' j ≡ get_elem? s.homes j
      → IsHomeOrOut s.words s.homes s.views owner j p → IsHomeOrOut (set s.words (8 * k) x) homes' (set s.views id w) owner j p
  parts_stay s owner id k x j homes' o w p at free other home (inl h) = inl (get_or-set_other s.words (8 * k) (8 * j) x 0 (words_apart j k other) ∙ h.0, (h.1.0, home ∙ h.1.1, h.1.2))
  parts_stay s owner id k x j homes' o w p at free other home (inr h) =
      let away : owner h.0.number ≢ id = λ e.
      let same : Seated h.0 ≡ Seated o = same_at s.views (owner h.0.number) id (Seated h.0) (Seated o) e h.1 at in
      free j p other (ap (λ (z : Visitor S D). z.held) (sym (seated_inj h.0 o same)) ∙ h.2) in
      inr (h.0, set_else s.views id (owner h.0.number) w away ∙ h.1, h.2, get_or-set_other s.words (8 * k) (8 * j) x 0 (words_apart j k other) ∙ h.3)

  -- a move keeps the rule
  pub move_keeps : (s : State (Slot D) (Knowledge S D)) (r : IsAccounted fact s) (id : ℕ) (o o' : Visitor S D) (k x : ℕ)
      (homes' : Homes D) (parts' : List D) (sessions' : List S) → Move fact s r id o o' k x homes' parts' sessions'
      → IsAccounted fact record { words = set s.words (8 * k) x; homes = homes'; views = set s.views id (Seated o') }
  move_keeps s r id o o' k x homes' parts' sessions' m =
      let mine = r.each_seat id (Seated o) m.seat in
      let words' : List ℕ = set s.words (8 * k) x in let views' : List (Knowledge S D) = set s.views id (Seated o') in record {
        parts = parts';
        sessions = sessions';
        kept = r.kept;
        owner = r.owner;
        fact_holds = m.fact_after;
        word_each = length-set s.words (8 * k) x ∙ (r.word_each ∙ ap (λ (n : ℕ). 8 * n) (sym m.parts_count));
        slot_each = m.homes_count ∙ (r.slot_each ∙ sym m.parts_count);
        each_part = λ j p e. dite (ℕ_discrete j k)
            (λ same. subst (λ (z : ℕ). IsHomeOrOut words' homes' views' r.owner z p) (sym same) (m.part_after p (ap (get_elem? parts') (sym same) ∙ e)))
            (λ other. parts_stay s r.owner id k x j homes' o (Seated o') p m.seat m.held_before other (m.other_homes j other)
            (r.each_part j p (sym (m.other_parts j other) ∙ e)));
        each_seat = each_stays (IsSo words' parts' sessions' r.kept r.owner) s.views id (Seated o') (
          ap r.owner m.number ∙ mine.0,
          ap (get_elem? sessions') m.number ∙ m.session_after,
          ap (get_elem? r.kept) m.number ∙ mine.2,
          λ j p e. let h = m.held_after j p e in (h.0, h.1 ∙ ap (λ (z : ℕ). 1 + z) (sym m.number)),
        )
            (λ j v other e. others s.words k x o.number r.parts parts' r.sessions sessions' r.kept r.owner id j v mine.0 other
            m.word_before m.other_parts m.other_sessions (r.each_seat j v e));
        each_kept = λ i a e.
            let away : i ≢ o.number = λ (same : i ≡ o.number).
            some_not_none a (some-injective (Some a) None (sym e ∙ (ap (get_elem? r.kept) same ∙ mine.2))) in
            m.other_sessions i away ∙ r.each_kept i a e;
        kept_each = r.kept_each ∙ sym m.sessions_count;
      }
