-- Sessions between two lines are dropped one after another, and then every session has ended.
use Rattle.std.proofs.Common.{◌≡◌, ℕ, ◌+◌, ◌<◌, ◌≤◌, List, [], ◌∷◌, ◌++◌, length, map, get_or, refl, ap, ◌∙◌, sym, arith, zero, suc, Option, None, true, cond, inl, inr, subst}
use Rattle.std.specs.Prelude.{is_some}
use Rattle.std.proofs.lemmas.Bool.{cases_eq, and_from, eq-eqb}
use Rattle.std.proofs.lemmas.List.{append-nil, append_assoc, length-map}
use Rattle.std.proofs.lemmas.Option.{none-some, slice_get_past}
use Rattle.hy_bound.specs.declared.Txn.{Txn}
use Rattle.hy_machine.specs.declared.Setting.{Setting}
use Rattle.hy_machine.specs.States.{State, Session, Open}
use Rattle.hy_machine.specs.Sessions.{fresh, session_at, program_of, has_ended}
use Rattle.hy_machine.specs.Runs.{opening_of, whole_of, items_of, all_ended_from, StepsFall}
use Rattle.hy_growing.specs.Growing.{IsAtEnd, IsUncommitted, IsResting, IsAnswered, AreAnswered, whole_item, BetweenLines, open_before, IsDropped, AreDropped, after_drop, DropsBegin, DropsGoOn, DropsEnd, OpenOnesAreDropped}
use Rattle.hy_growing.proofs.Answering.{answered_whole, answers_whole}
use Rattle.hy_growing.proofs.Reaching.{turns_many}
use Rattle.hy_growing.proofs.Reply.{comes_to_answer, turns_unmarked, turns_then}
use Rattle.hy_growing.proofs.Next.{IsOver, IsClosed, closed_after}
use Rattle.hy_growing.proofs.Lines.{others_after}
use Rattle.hy_growing.proofs.Between.{end_stays, wait_stays}
use Rattle.hy_growing.proofs.Rolling.{IsRolling, HasRolledBack, rolled_after, rolled_same}

-- ---- one session

-- nothing is open where a session is at its end
pub end_closed : (setting : Setting) (state : State) (number : ℕ) → IsAtEnd setting state number → after_drop setting state number ≡ state
end_closed setting state number ends = ap (λ (now : Option Open). cond (is_some now) (whole_of setting state number) state) ends.closed

end_adds : (setting : Setting) (state : State) (number : ℕ) → IsAtEnd setting state number → open_before state (suc number) ≡ open_before state number
end_adds setting state number ends =
    ap (λ (now : Option Open). cond (is_some now) (open_before state number ++ number ∷ []) (open_before state number)) ends.closed

pub wait_open : (setting : Setting) (state : State) (number : ℕ) → IsUncommitted setting state number → after_drop setting state number ≡ whole_of setting state number
wait_open setting state number waits = ap (λ (now : Option Open). cond (is_some now) (whole_of setting state number) state) waits.0.open_now

wait_adds : (setting : Setting) (state : State) (number : ℕ) → IsUncommitted setting state number → open_before state (suc number) ≡ open_before state number ++ number ∷ []
wait_adds setting state number waits =
    ap (λ (now : Option Open). cond (is_some now) (open_before state number ++ number ∷ []) (open_before state number)) waits.0.open_now

-- a session that waits is answered, and is at its end then
record IsGone (setting : Setting) (state : State) (number : ℕ) (next : State) : Type 0 where
  answered : IsAnswered setting number state next
  at_end : IsAtEnd setting next number
  rolled_back : HasRolledBack (session_at state number).done (session_at next number)
  order : next.order ≡ state.order

goes : StepsFall → (setting : Setting) (state : State) (number : ℕ) → number < length state.sessions → state.mark ≡ None → IsUncommitted setting state number
    → (next : State) × IsGone setting state number next
goes falls setting state number l none waits = (
  next,
  record {
    answered = answered;
    at_end = record { closed = end.0; all = end.1 };
    rolled_back = rolled_after setting number waits.0.txn state next l waits.0.here rolling answered;
    order = rolled_same setting number waits.0.txn state next l waits.0.here rolling answered;
  },
)
  where
    answer : (next : State) × IsAnswered setting number state next
    answer = comes_to_answer falls setting state number waits.0.txn l none waits.0.here

    next : State
    next = answer.0

    answered : IsAnswered setting number state next
    answered = answer.1

    over : IsOver waits.0.txn (session_at state number).now
    over = subst (IsOver waits.0.txn) (sym waits.0.open_now) (omega (arith, waits.0.answered))

    rolling : IsRolling waits.0.txn (session_at state number).now
    rolling = subst (IsRolling waits.0.txn) (sym waits.0.open_now)
        (slice_get_past waits.0.txn.statements (length waits.0.begun.replies) (omega (arith, waits.0.answered)), waits.1)

    end : IsClosed (length (program_of setting number)) (session_at next number)
    end = closed_after setting number waits.0.txn state next l waits.0.here waits.0.last over answered

-- ---- one after another

pub drops_begin : DropsBegin
drops_begin setting state turns between = record {
  answered = subst (λ (all : List ℕ). AreAnswered setting (opening_of setting) all state) (sym (append-nil turns)) between.answered;
  dropped = λ other h. absurd (omega (arith, h));
  others = λ other h. refl;
  order = refl;
}

-- one more is dropped, where nothing changes
pub end_dropped : (setting : Setting) (state next : State) (turns : List ℕ) (number : ℕ) → IsAtEnd setting state number → AreDropped setting turns state number next
    → AreDropped setting turns state (suc number) next
end_dropped setting state next turns number ends dropped = record {
  answered = subst (λ (more : List ℕ). AreAnswered setting (opening_of setting) (turns ++ more) next) (sym (end_adds setting state number ends)) dropped.answered;
  dropped = λ other h. elim (cases_eq other number) [
    | inl e ↦ subst (IsDropped setting state next) (sym e) own
    | inr n ↦ dropped.dropped other (omega (arith, h, n))
  ];
  others = λ other h. dropped.others other (omega (arith, h));
  order = dropped.order;
}
  where
    same : session_at next number ≡ session_at state number
    same = dropped.others number (omega arith)

    own : IsDropped setting state next number
    own = record {
      at_end = end_stays setting setting state next number same refl ends;
      rolled_back = λ current e. absurd (none-some current (sym ends.closed ∙ e));
      same = λ none. same;
    }

-- one more is dropped, by a turn
gone_dropped : (setting : Setting) (state mid next : State) (turns : List ℕ) (number : ℕ) → IsUncommitted setting state number → AreDropped setting turns state number mid
    → IsGone setting mid number next → AreDropped setting turns state (suc number) next
gone_dropped setting state mid next turns number waits dropped gone = record {
  answered = subst (λ (all : List ℕ). AreAnswered setting (opening_of setting) all next) all_are
      (turns_then setting (turns ++ open_before state number) number (opening_of setting) mid next dropped.answered gone.answered);
  dropped = λ other h. elim (cases_eq other number) [
    | inl e ↦ subst (IsDropped setting state next) (sym e) own
    | inr n ↦ stays other n (dropped.dropped other (omega (arith, h, n)))
  ];
  others = λ other h. there other (λ e. omega (arith, h, e)) ∙ dropped.others other (omega (arith, h));
  order = gone.order ∙ dropped.order;
}
  where
    all_are : (turns ++ open_before state number) ++ number ∷ [] ≡ turns ++ open_before state (suc number)
    all_are = append_assoc turns (open_before state number) (number ∷ []) ∙ ap (λ (more : List ℕ). turns ++ more) (sym (wait_adds setting state number waits))

    there : (other : ℕ) → (other ≡ number → ⊥) → session_at next other ≡ session_at mid other
    there other n = others_after setting number other mid next n gone.answered

    ended : HasRolledBack (session_at state number).done (session_at next number)
    ended = subst (λ (one : Session). HasRolledBack one.done (session_at next number)) (dropped.others number (omega arith)) gone.rolled_back

    own : IsDropped setting state next number
    own = record {
      at_end = gone.at_end;
      rolled_back = λ current e. ended;
      same = λ none. absurd (none-some _ (sym none ∙ waits.0.open_now));
    }

    stays : (other : ℕ) → (other ≡ number → ⊥) → IsDropped setting state mid other → IsDropped setting state next other
    stays other n one = record {
      at_end = end_stays setting setting mid next other (there other n) refl one.at_end;
      rolled_back = λ current e.
          let ends = one.rolled_back current e in
          (ends.0, (ends.1.0, ap (λ (session : Session). session.done) (there other n) ∙ ends.1.1));
      same = λ none. there other n ∙ one.same none;
    }

dropped_many : (setting : Setting) (state next : State) (turns : List ℕ) (number : ℕ) → AreDropped setting turns state number next
    → length next.sessions ≡ length setting.programs
dropped_many setting state next turns number dropped =
    turns_many setting (turns ++ open_before state number) (opening_of setting) next dropped.answered ∙ length-map setting.programs (λ (txns : List Txn). fresh)

pub drops_on : StepsFall → DropsGoOn
drops_on falls setting state next turns number between l dropped = by_rest (between.resting number l)
  where
    same : session_at next number ≡ session_at state number
    same = dropped.others number (omega arith)

    unmarked : next.mark ≡ None
    unmarked = turns_unmarked setting (turns ++ open_before state number) (opening_of setting) next (length-map setting.programs (λ (txns : List Txn). fresh)) refl
        dropped.answered

    by_rest : IsResting setting state number → AreDropped setting turns state (suc number) (after_drop setting next number)
    by_rest (inl ends) = subst (AreDropped setting turns state (suc number)) (sym (end_closed setting next number (end_stays setting setting state next number same refl ends)))
        (end_dropped setting state next turns number ends dropped)
    by_rest (inr waits) =
        let here : IsUncommitted setting next number = wait_stays setting setting state next number same refl waits in
        let gone = goes falls setting next number (omega (arith, l, dropped_many setting state next turns number dropped)) unmarked here in
        subst (AreDropped setting turns state (suc number)) (sym (wait_open setting next number here ∙ answered_whole falls setting number next gone.0 gone.1.answered))
        (gone_dropped setting state next gone.0 turns number waits dropped gone.1)

-- ---- at the end

all_ended : (setting : Setting) (first : ℕ) (sessions : List Session)
    → ((number i : ℕ) → number ≡ first + i → i < length sessions → has_ended setting number (get_or sessions i fresh) ≡ true)
    → all_ended_from setting first sessions ≡ true
all_ended setting first [] each = refl
all_ended setting first (session ∷ sessions) each =
    and_from (has_ended setting first session) (all_ended_from setting (suc first) sessions) (each first 0 (omega arith) (omega arith))
    (all_ended setting (suc first) sessions (λ number i e l. each number (suc i) (omega (arith, e)) (omega (arith, l))))

pub drops_end : DropsEnd
drops_end setting state next turns dropped = all_ended setting 0 next.sessions ended
  where
    ended : (number i : ℕ) → number ≡ 0 + i → i < length next.sessions → has_ended setting number (get_or next.sessions i fresh) ≡ true
    ended number i e l =
        let here : number ≡ i = omega (arith, e) in
        subst (λ (one : ℕ). has_ended setting one (get_or next.sessions i fresh) ≡ true) (sym here) (at i l)
      where
        at : (i : ℕ) → i < length next.sessions → has_ended setting i (session_at next i) ≡ true
        at i l = eq-eqb (length (session_at next i).done) (length (program_of setting i))
            (dropped.dropped i (omega (arith, l, dropped_many setting state next turns (length setting.programs) dropped))).at_end.all

-- the items of one list, and then of another
items_then : (setting : Setting) (state : State) (turns more : List ℕ)
    → items_of setting state (map whole_item (turns ++ more)) ≡ items_of setting (items_of setting state (map whole_item turns)) (map whole_item more)
items_then setting state [] more = refl
items_then setting state (number ∷ turns) more = items_then setting (whole_of setting state number) turns more

drops_to : StepsFall → (setting : Setting) (state : State) (turns : List ℕ) → BetweenLines setting turns state → (number : ℕ) → number ≤ length setting.programs
    → (next : State) × AreDropped setting turns state number next
drops_to falls setting state turns between zero h = (state, drops_begin setting state turns between)
drops_to falls setting state turns between (suc number) h =
    let rest = drops_to falls setting state turns between number (omega (arith, h)) in
    (after_drop setting rest.0 number, drops_on falls setting state rest.0 turns number between (omega (arith, h)) rest.1)

pub open_dropped : StepsFall → OpenOnesAreDropped
open_dropped falls setting state turns between =
    let most : ℕ = length setting.programs in
    let end = drops_to falls setting state turns between most (omega arith) in
    let whole : items_of setting (opening_of setting) (map whole_item (turns ++ open_before state most)) ≡ end.0 =
    answers_whole falls setting (opening_of setting) end.0 (turns ++ open_before state most) end.1.answered in
    let first : items_of setting (opening_of setting) (map whole_item turns) ≡ state =
    answers_whole falls setting (opening_of setting) state turns between.answered in
    let same : end.0 ≡ items_of setting state (map whole_item (open_before state most)) =
    sym whole ∙ (items_then setting (opening_of setting) turns (open_before state most)
    ∙ ap (λ (from : State). items_of setting from (map whole_item (open_before state most))) first) in
    subst (AreDropped setting turns state most) same end.1
