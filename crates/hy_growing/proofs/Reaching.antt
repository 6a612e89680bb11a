-- Steps and answered turns in a setting with a longer script.
use Rattle.std.proofs.Common.{◌≡◌, ◌⊎◌, ℕ, ◌<◌, List, [], ◌∷◌, ◌++◌, length, refl, ap, ◌∙◌, sym, arith, inl, inr, subst}
use Rattle.std.specs.Prelude.{slice_get}
use Rattle.std.proofs.lemmas.Bool.{cases_eq}
use Rattle.std.proofs.lemmas.List.{length-set, get_or-set_same, get_or-set_other}
use Rattle.hy_bound.specs.declared.Txn.{Txn}
use Rattle.hy_machine.specs.declared.Setting.{Setting}
use Rattle.hy_machine.specs.States.{State}
use Rattle.hy_protocol.specs.Turns.{Turn, Done, Waits, Begins, Visits, Answers, Saves, Enters, Ends}
use Rattle.hy_protocol.specs.declared.Phase.TheVariants.{Stamping}
use Rattle.hy_protocol.specs.declared.Progress.TheVariants.{Moved, Answered}
use Rattle.hy_machine.specs.Sessions.{fresh, session_at, program_of, txn_at}
use Rattle.hy_machine.specs.Turns.{turn, session_turn}
use Rattle.hy_machine.specs.Steps.{Step, after_turn, step_of, with_open, beginning, after_visit, after_answer, after_saving, with_changed, with_ended}
use Rattle.hy_machine.specs.Runs.{after_steps}
use Rattle.hy_growing.specs.Growing.{with_programs, IsAnswered, at_once, later, AreAnswered}
use Rattle.hy_growing.proofs.Agreement.{same_step}
use Rattle.hy_growing.proofs.Stands.{Stands, SameTo, IsIdle, session_after, stood_and_same}
use Rattle.hy_machine.specs.Writes.{Write}

-- ---- the sessions after a turn

pub own_after : (setting : Setting) (state : State) (number : ℕ) (turn : Turn Write) → number < length state.sessions
    → session_at (after_turn setting state number turn).0 number ≡ session_after setting state turn (session_at state number)
own_after setting state number Done l = refl
own_after setting state number (Waits by) l = refl
own_after setting state number Begins l = get_or-set_same state.sessions number (with_open (beginning setting state) (session_at state number)) fresh l
own_after setting state number (Visits writes phase) l = get_or-set_same state.sessions number (with_changed (after_visit writes phase) (session_at state number)) fresh l
own_after setting state number (Answers writes reply took records) l =
    get_or-set_same state.sessions number (with_changed (after_answer writes reply took records) (session_at state number)) fresh l
own_after setting state number (Saves statement reply) l =
    get_or-set_same state.sessions number (with_changed (after_saving statement reply) (session_at state number)) fresh l
own_after setting state number Enters l = get_or-set_same state.sessions number (with_changed (after_visit [] (Stamping 0)) (session_at state number)) fresh l
own_after setting state number (Ends how) l = get_or-set_same state.sessions number (with_ended how (session_at state number)) fresh l

pub other_after : (setting : Setting) (state : State) (acting number : ℕ) (turn : Turn Write) → (number ≡ acting → ⊥)
    → session_at (after_turn setting state acting turn).0 number ≡ session_at state number
other_after setting state acting number Done n = refl
other_after setting state acting number (Waits by) n = refl
other_after setting state acting number Begins n = get_or-set_other state.sessions acting number (with_open (beginning setting state) (session_at state acting)) fresh n
other_after setting state acting number (Visits writes phase) n =
    get_or-set_other state.sessions acting number (with_changed (after_visit writes phase) (session_at state acting)) fresh n
other_after setting state acting number (Answers writes reply took records) n =
    get_or-set_other state.sessions acting number (with_changed (after_answer writes reply took records) (session_at state acting)) fresh n
other_after setting state acting number (Saves statement reply) n =
    get_or-set_other state.sessions acting number (with_changed (after_saving statement reply) (session_at state acting)) fresh n
other_after setting state acting number Enters n =
    get_or-set_other state.sessions acting number (with_changed (after_visit [] (Stamping 0)) (session_at state acting)) fresh n
other_after setting state acting number (Ends how) n = get_or-set_other state.sessions acting number (with_ended how (session_at state acting)) fresh n

as_many : (setting : Setting) (state : State) (acting : ℕ) (turn : Turn Write) → length (after_turn setting state acting turn).0.sessions ≡ length state.sessions
as_many setting state acting Done = refl
as_many setting state acting (Waits by) = refl
as_many setting state acting Begins = length-set state.sessions acting (with_open (beginning setting state) (session_at state acting))
as_many setting state acting (Visits writes phase) = length-set state.sessions acting (with_changed (after_visit writes phase) (session_at state acting))
as_many setting state acting (Answers writes reply took records) =
    length-set state.sessions acting (with_changed (after_answer writes reply took records) (session_at state acting))
as_many setting state acting (Saves statement reply) =
    length-set state.sessions acting (with_changed (after_saving statement reply) (session_at state acting))
as_many setting state acting Enters = length-set state.sessions acting (with_changed (after_visit [] (Stamping 0)) (session_at state acting))
as_many setting state acting (Ends how) = length-set state.sessions acting (with_ended how (session_at state acting))

idle_stays : (setting : Setting) (state : State) (acting : ℕ) (turn : Turn Write) → IsIdle turn → (after_turn setting state acting turn).0 ≡ state
idle_stays setting state acting Done i = refl
idle_stays setting state acting (Waits by) i = refl
idle_stays setting state acting Begins i = absurd i
idle_stays setting state acting (Visits writes phase) i = absurd i
idle_stays setting state acting (Answers writes reply took records) i = absurd i
idle_stays setting state acting (Saves statement reply) i = absurd i
idle_stays setting state acting Enters i = absurd i
idle_stays setting state acting (Ends how) i = absurd i

idle_not_answered : (setting : Setting) (state : State) (acting : ℕ) (turn : Turn Write) → IsIdle turn → (after_turn setting state acting turn).1 ≡ Answered → ⊥
idle_not_answered setting state acting Done i e = absurd (cc e)
idle_not_answered setting state acting (Waits by) i e = absurd (cc e)
idle_not_answered setting state acting Begins i e = absurd i
idle_not_answered setting state acting (Visits writes phase) i e = absurd i
idle_not_answered setting state acting (Answers writes reply took records) i e = absurd i
idle_not_answered setting state acting (Saves statement reply) i e = absurd i
idle_not_answered setting state acting Enters i e = absurd i
idle_not_answered setting state acting (Ends how) i e = absurd i

idle_not_moved : (setting : Setting) (state : State) (acting : ℕ) (turn : Turn Write) → IsIdle turn → (after_turn setting state acting turn).1 ≡ Moved → ⊥
idle_not_moved setting state acting Done i e = absurd (cc e)
idle_not_moved setting state acting (Waits by) i e = absurd (cc e)
idle_not_moved setting state acting Begins i e = absurd i
idle_not_moved setting state acting (Visits writes phase) i e = absurd i
idle_not_moved setting state acting (Answers writes reply took records) i e = absurd i
idle_not_moved setting state acting (Saves statement reply) i e = absurd i
idle_not_moved setting state acting Enters i e = absurd i
idle_not_moved setting state acting (Ends how) i e = absurd i

-- ---- a longer script

-- the other scripts are the same, and so are this one's first transactions, and the next one as far as so many statements go
pub record Grows (setting : Setting) (programs : List (List Txn)) (number ended most : ℕ) : Type 0 where
  pub others : (other : ℕ) → (other ≡ number → ⊥) → program_of (with_programs setting programs) other ≡ program_of setting other
  pub before : (i : ℕ) → i < ended → slice_get (program_of (with_programs setting programs) number) i ≡ slice_get (program_of setting number) i
  pub here : SameTo most (slice_get (program_of setting number) ended) (slice_get (program_of (with_programs setting programs) number) ended)

-- a step after which the session stands so
abbrev Back : Setting → List (List Txn) → ℕ → ℕ → ℕ → State → ℕ → Type 0
Back setting programs number ended most state acting = Stands ended most (session_at (step_of setting state acting).0 number)
    → Stands ended most (session_at state number)
    × (IsIdle (turn setting state acting) ⊎ (step_of (with_programs setting programs) state acting ≡ step_of setting state acting))

own_back : (setting : Setting) (programs : List (List Txn)) (number ended most : ℕ) (state : State) → Grows setting programs number ended most → number < length state.sessions
    → Back setting programs number ended most state number
own_back setting programs number ended most state g l s = (one.0, elim one.1 [ inl i ↦ inl i | inr e ↦ inr (same_step setting programs state number e) ])
  where
    at_before : length (session_at state number).done < ended → txn_at (with_programs setting programs) number (session_at state number) ≡ txn_at setting number (session_at state number)
    at_before lt = g.before (length (session_at state number).done) lt

    at_here : length (session_at state number).done ≡ ended
        → SameTo most (txn_at setting number (session_at state number)) (txn_at (with_programs setting programs) number (session_at state number))
    at_here e = rw e g.here

    after : Stands ended most (session_after setting state (turn setting state number) (session_at state number))
    after = subst (Stands ended most) (own_after setting state number (turn setting state number) l) s

    one : Stands ended most (session_at state number)
        × (IsIdle (turn setting state number)
        ⊎ (session_turn setting state number (txn_at (with_programs setting programs) number (session_at state number)) (session_at state number).now
        ≡ session_turn setting state number (txn_at setting number (session_at state number)) (session_at state number).now))
    one = stood_and_same setting state number ended most (session_at state number) (txn_at setting number (session_at state number))
        (txn_at (with_programs setting programs) number (session_at state number)) at_before at_here after

other_back : (setting : Setting) (programs : List (List Txn)) (number ended most : ℕ) (state : State) (acting : ℕ) → Grows setting programs number ended most → (acting ≡ number → ⊥)
    → Back setting programs number ended most state acting
other_back setting programs number ended most state acting g n s = (
  subst (Stands ended most) (other_after setting state acting number (turn setting state acting) (λ e. n (sym e))) s,
  inr (same_step setting programs state acting
      (ap (λ (program : List Txn). session_turn setting state acting (slice_get program (length (session_at state acting).done)) (session_at state acting).now) (g.others acting n))),
)

step_back : (setting : Setting) (programs : List (List Txn)) (number ended most : ℕ) (state : State) (acting : ℕ) → Grows setting programs number ended most → number < length state.sessions
    → Back setting programs number ended most state acting
step_back setting programs number ended most state acting g l = elim (cases_eq acting number) [
  | inl e ↦ subst (Back setting programs number ended most state) (sym e) (own_back setting programs number ended most state g l)
  | inr n ↦ other_back setting programs number ended most state acting g n
]

pub step_within : (setting : Setting) (state : State) (acting number : ℕ) → number < length state.sessions → number < length (step_of setting state acting).0.sessions
step_within setting state acting number l = omega (arith, l, as_many setting state acting (turn setting state acting))

-- steps of the shorter script are steps of the longer one, those that are idle being left out
pub steps_back : (setting : Setting) (programs : List (List Txn)) (number ended most : ℕ) → Grows setting programs number ended most → (numbers : List ℕ) (state : State)
    → number < length state.sessions → Stands ended most (session_at (after_steps setting state numbers) number)
    → Stands ended most (session_at state number)
    × ((others : List ℕ) × (after_steps setting state numbers ≡ after_steps (with_programs setting programs) state others))
steps_back setting programs number ended most g [] state l s = (s, ([], refl))
steps_back setting programs number ended most g (acting ∷ numbers) state l s =
    let next : State = (step_of setting state acting).0 in
    let rest = steps_back setting programs number ended most g numbers next (step_within setting state acting number l) s in
    let one = step_back setting programs number ended most state acting g l rest.0 in (
      one.0,
      elim one.1 [
        | inl i ↦ (rest.1.0, rest.1.1 ∙ ap (λ (from : State). after_steps (with_programs setting programs) from rest.1.0) (idle_stays setting state acting (turn setting state acting) i))
        | inr e ↦ (acting ∷ rest.1.0, rest.1.1 ∙ ap (λ (step : Step). after_steps (with_programs setting programs) step.0 rest.1.0) (sym e))
      ],
    )

-- a turn that was answered is answered with the longer script
answered_back : (setting : Setting) (programs : List (List Txn)) (number ended most acting : ℕ) → Grows setting programs number ended most → (state next : State)
    → number < length state.sessions → IsAnswered setting acting state next → Stands ended most (session_at next number)
    → Stands ended most (session_at state number) × IsAnswered (with_programs setting programs) acting state next
answered_back setting programs number ended most acting g state next l (at_once _ _ e a) s =
    let one = step_back setting programs number ended most state acting g l (subst (λ (to : State). Stands ended most (session_at to number)) (sym e) s) in (
      one.0,
      elim one.1 [
        | inl i ↦ absurd (idle_not_answered setting state acting (turn setting state acting) i a)
        | inr same ↦ at_once state next (ap (λ (step : Step). step.0) same ∙ e) (ap (λ (step : Step). step.1) same ∙ a)
      ],
    )
answered_back setting programs number ended most acting g state next l (later _ mid _ e m rest) s =
    let within : number < length mid.sessions = subst (λ (to : State). number < length to.sessions) e (step_within setting state acting number l) in
    let more = answered_back setting programs number ended most acting g mid next within rest s in
    let one = step_back setting programs number ended most state acting g l (subst (λ (to : State). Stands ended most (session_at to number)) (sym e) more.0) in (
      one.0,
      elim one.1 [
        | inl i ↦ absurd (idle_not_moved setting state acting (turn setting state acting) i m)
        | inr same ↦ later state mid next (ap (λ (step : Step). step.0) same ∙ e) (ap (λ (step : Step). step.1) same ∙ m) more.1
      ],
    )

pub answered_many : (setting : Setting) (acting : ℕ) (state next : State) → IsAnswered setting acting state next → length next.sessions ≡ length state.sessions
answered_many setting acting state next (at_once _ _ e a) = ap (λ (to : State). length to.sessions) (sym e) ∙ as_many setting state acting (turn setting state acting)
answered_many setting acting state next (later _ mid _ e m rest) =
    answered_many setting acting mid next rest ∙ (ap (λ (to : State). length to.sessions) (sym e) ∙ as_many setting state acting (turn setting state acting))

pub turns_many : (setting : Setting) (turns : List ℕ) (state next : State) → AreAnswered setting state turns next → length next.sessions ≡ length state.sessions
turns_many setting [] state next a = ap (λ (to : State). length to.sessions) (sym a)
turns_many setting (acting ∷ turns) state next a = turns_many setting turns a.0 next a.2 ∙ answered_many setting acting state a.0 a.1

pub turns_back : (setting : Setting) (programs : List (List Txn)) (number ended most : ℕ) → Grows setting programs number ended most → (turns : List ℕ) (state next : State)
    → number < length state.sessions → AreAnswered setting state turns next → Stands ended most (session_at next number)
    → Stands ended most (session_at state number) × AreAnswered (with_programs setting programs) state turns next
turns_back setting programs number ended most g [] state next l a s = (subst (λ (to : State). Stands ended most (session_at to number)) (sym a) s, a)
turns_back setting programs number ended most g (acting ∷ turns) state next l a s =
    let rest = turns_back setting programs number ended most g turns a.0 next (omega (arith, l, answered_many setting acting state a.0 a.1)) a.2 s in
    let one = answered_back setting programs number ended most acting g state a.0 l a.1 rest.0 in
    (one.0, (a.0, one.1, rest.1))

-- ---- answered turns are steps

steps_then : (setting : Setting) (state : State) (first second : List ℕ) → after_steps setting state (first ++ second) ≡ after_steps setting (after_steps setting state first) second
steps_then setting state [] second = refl
steps_then setting state (number ∷ first) second = steps_then setting (step_of setting state number).0 first second

answered_steps : (setting : Setting) (acting : ℕ) (state next : State) → IsAnswered setting acting state next
    → (numbers : List ℕ) × (next ≡ after_steps setting state numbers)
answered_steps setting acting state next (at_once _ _ e a) = (acting ∷ [], sym e)
answered_steps setting acting state next (later _ mid _ e m rest) =
    let more = answered_steps setting acting mid next rest in
    (acting ∷ more.0, more.1 ∙ ap (λ (from : State). after_steps setting from more.0) (sym e))

pub turns_steps : (setting : Setting) (turns : List ℕ) (state next : State) → AreAnswered setting state turns next
    → (numbers : List ℕ) × (next ≡ after_steps setting state numbers)
turns_steps setting [] state next a = ([], sym a)
turns_steps setting (acting ∷ turns) state next a =
    let one = answered_steps setting acting state a.0 a.1 in
    let more = turns_steps setting turns a.0 next a.2 in (
      one.0 ++ more.0,
      more.1 ∙ (ap (λ (from : State). after_steps setting from more.0) one.1 ∙ sym (steps_then setting state one.0 more.0)),
    )
