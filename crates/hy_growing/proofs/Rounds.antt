-- The rounds behind the lines drop what is open, as whole items do.
use Rattle.std.proofs.Common.{◌≡◌, ℕ, ◌+◌, ◌<◌, ◌≤◌, List, [], ◌∷◌, ◌++◌, length, map, drop, get_or, refl, ap, ◌∙◌, sym, arith, zero, suc, Option, None, true, inl, inr, subst}
use Rattle.std.proofs.lemmas.Bool.{cases_Bool, and_parts, eqb-true}
use Rattle.std.proofs.lemmas.List.{length-map}
use Rattle.hy_bound.specs.declared.Txn.{Txn}
use Rattle.hy_machine.specs.declared.Setting.{Setting}
use Rattle.hy_machine.specs.States.{State, Session, Open}
use Rattle.hy_machine.specs.Sessions.{fresh, session_at, program_of, has_ended}
use Rattle.hy_machine.specs.Measures.{txns_left, steps_left, measure_of}
use Rattle.hy_machine.specs.Runs.{opening_of, moves, whole_of, round_from, round_of, all_ended_from, repeated, rounds_of, run_of, StepsFall, RunsEnd}
use Rattle.hy_growing.specs.Growing.{IsAtEnd, IsResting, whole_item, BetweenLines, open_before, AreDropped, after_drop, DropsAreRuns}
use Rattle.hy_growing.proofs.Answering.{answers_whole, no_rounds, turns_run}
use Rattle.hy_growing.proofs.Reaching.{turns_many}
use Rattle.hy_growing.proofs.Between.{end_stays, wait_stays}
use Rattle.hy_growing.proofs.Dropping.{end_closed, wait_open, drops_begin, end_dropped, drops_on, drops_end}

-- ---- a round drops all

nothing_left : {A : Type 0} (xs : List A) (n : ℕ) → length xs ≤ n → drop n xs ≡ []
nothing_left [] zero h = refl
nothing_left [] (suc n) h = refl
nothing_left (x ∷ xs) zero h = absurd (omega (arith, h))
nothing_left (x ∷ xs) (suc n) h = nothing_left xs n (omega (arith, h))

-- a whole item of a session at its end changes nothing
none_moves : (fuel : ℕ) (setting : Setting) (state : State) (number : ℕ) → fuel ≡ 0 → moves fuel setting state number ≡ state
unfolding moves
none_moves zero setting state number e = refl
none_moves (suc fuel) setting state number e = absurd (omega (arith, e))

end_whole : (setting : Setting) (state : State) (number : ℕ) → IsAtEnd setting state number → whole_of setting state number ≡ state
end_whole setting state number ends = none_moves (steps_left setting number (session_at state number)) setting state number none
  where
    none : steps_left setting number (session_at state number) ≡ 0
    none = ap (λ (now : Option Open). txns_left setting now (drop (length (session_at state number).done) (program_of setting number))) ends.closed
        ∙ ap (txns_left setting None) (nothing_left (program_of setting number) (length (session_at state number).done) (omega (arith, ends.all)))

whole_drops : (setting : Setting) (state next : State) (turns : List ℕ) (number : ℕ) → BetweenLines setting turns state → number < length setting.programs
    → AreDropped setting turns state number next → whole_of setting next number ≡ after_drop setting next number
whole_drops setting state next turns number between l dropped = by_rest (between.resting number l)
  where
    same : session_at next number ≡ session_at state number
    same = dropped.others number (omega arith)

    by_rest : IsResting setting state number → whole_of setting next number ≡ after_drop setting next number
    by_rest (inl ends) =
        let here : IsAtEnd setting next number = end_stays setting setting state next number same refl ends in
        end_whole setting next number here ∙ sym (end_closed setting next number here)
    by_rest (inr waits) = sym (wait_open setting next number (wait_stays setting setting state next number same refl waits))

round_drops : StepsFall → (left : ℕ) (setting : Setting) (state next : State) (turns : List ℕ) (number : ℕ) → BetweenLines setting turns state
    → number + left ≡ length setting.programs → AreDropped setting turns state number next
    → AreDropped setting turns state (length setting.programs) (round_from setting next number left)
round_drops falls zero setting state next turns number between e dropped =
    let all : number ≡ length setting.programs = omega (arith, e) in
    subst (λ (most : ℕ). AreDropped setting turns state most next) all dropped
round_drops falls (suc left) setting state next turns number between e dropped =
    let l : number < length setting.programs = omega (arith, e) in
    let one : AreDropped setting turns state (suc number) (whole_of setting next number) =
    subst (AreDropped setting turns state (suc number)) (sym (whole_drops setting state next turns number between l dropped))
    (drops_on falls setting state next turns number between l dropped) in
    round_drops falls left setting state (whole_of setting next number) turns (suc number) between (omega (arith, e)) one

-- ---- what all come to is one state

same_end : StepsFall → (setting : Setting) (state first second : State) (turns : List ℕ) (number : ℕ) → AreDropped setting turns state number first
    → AreDropped setting turns state number second → first ≡ second
same_end falls setting state first second turns number a b =
    sym (answers_whole falls setting (opening_of setting) first (turns ++ open_before state number) a.answered)
    ∙ answers_whole falls setting (opening_of setting) second (turns ++ open_before state number) b.answered

-- ---- where all have ended nothing is open

each_ended : (setting : Setting) (first : ℕ) (sessions : List Session) → all_ended_from setting first sessions ≡ true
    → (number i : ℕ) → number ≡ first + i → i < length sessions → has_ended setting number (get_or sessions i fresh) ≡ true
each_ended setting first [] all number i e l = absurd (omega (arith, l))
each_ended setting first (session ∷ sessions) all number zero e l =
    let here : number ≡ first = omega (arith, e) in
    subst (λ (one : ℕ). has_ended setting one session ≡ true) (sym here) (and_parts (has_ended setting first session) (all_ended_from setting (suc first) sessions) all).0
each_ended setting first (session ∷ sessions) all number (suc i) e l =
    each_ended setting (suc first) sessions (and_parts (has_ended setting first session) (all_ended_from setting (suc first) sessions) all).1 number i
    (omega (arith, e)) (omega (arith, l))

ends_dropped : (setting : Setting) (state : State) (turns : List ℕ) → BetweenLines setting turns state → all_ended_from setting 0 state.sessions ≡ true
    → (number : ℕ) → number ≤ length setting.programs → AreDropped setting turns state number state
ends_dropped setting state turns between all zero h = drops_begin setting state turns between
ends_dropped setting state turns between all (suc number) h =
    end_dropped setting state state turns number (at_end (between.resting number (omega (arith, h)))) (ends_dropped setting state turns between all number (omega (arith, h)))
  where
    within : number < length state.sessions
    within = omega (arith, h, turns_many setting turns (opening_of setting) state between.answered, length-map setting.programs (λ (txns : List Txn). fresh))

    counts : length (session_at state number).done ≡ length (program_of setting number)
    counts = eqb-true (length (session_at state number).done) (length (program_of setting number)) (each_ended setting 0 state.sessions all number number (omega arith) within)

    at_end : IsResting setting state number → IsAtEnd setting state number
    at_end (inl ends) = ends
    at_end (inr waits) = absurd (omega (arith, counts, waits.0.last))

-- ---- the run

rounds_drop : StepsFall → (most : ℕ) (setting : Setting) (state next : State) (turns : List ℕ) → BetweenLines setting turns state
    → AreDropped setting turns state (length setting.programs) next → all_ended_from setting 0 (repeated most setting state).sessions ≡ true
    → repeated most setting state ≡ next
unfolding repeated
rounds_drop falls zero setting state next turns between dropped ended =
    same_end falls setting state state next turns (length setting.programs) (ends_dropped setting state turns between ended (length setting.programs) (omega arith)) dropped
rounds_drop falls (suc most) setting state next turns between dropped ended = elim (cases_Bool (all_ended_from setting 0 state.sessions)) [
  | inl t ↦ rw t (same_end falls setting state state next turns (length setting.programs)
      (ends_dropped setting state turns between t (length setting.programs) (omega arith)) dropped)
  | inr f ↦ rw f (ap (repeated most setting) round_is ∙ no_rounds most setting next (drops_end setting state next turns dropped))
]
  where
    many : 0 + length state.sessions ≡ length setting.programs
    many = omega (arith, turns_many setting turns (opening_of setting) state between.answered, length-map setting.programs (λ (txns : List Txn). fresh))

    round_is : round_of setting state ≡ next
    round_is = same_end falls setting state (round_of setting state) next turns (length setting.programs)
        (round_drops falls (length state.sessions) setting state state turns 0 between many (drops_begin setting state turns between)) dropped

pub drops_run : StepsFall → RunsEnd → DropsAreRuns
drops_run falls ends setting state next turns between dropped = (
  turns_run falls setting next (turns ++ open_before state (length setting.programs)) dropped.answered (drops_end setting state next turns dropped),
  rounds ∙ rounds_drop falls (measure_of setting state) setting state next turns between dropped
      (ap (λ (to : State). all_ended_from setting 0 to.sessions) (sym rounds) ∙ ends setting (map whole_item turns)),
)
  where
    rounds : run_of setting (map whole_item turns) ≡ rounds_of setting state
    rounds = ap (rounds_of setting) (answers_whole falls setting (opening_of setting) state turns between.answered)
