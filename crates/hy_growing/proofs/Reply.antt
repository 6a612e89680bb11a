-- A session with a transaction before it, which nobody blocks, comes to an answer, and no session is marked after it.
use Rattle.std.proofs.Common.{◌≡◌, ◌⊎◌, ℕ, ◌<◌, List, [], ◌∷◌, ◌++◌, length, get_or, refl, ap, ◌∙◌, sym, arith, zero, suc, true, Option, None, Some, inl, inr, subst}
use Rattle.std.specs.Prelude.{slice_get}
use Rattle.std.specs.Option.{option_map}
use Rattle.std.proofs.lemmas.Bool.{eq-eqb}
use Rattle.hy_bound.specs.declared.Txn.{Txn}
use Rattle.hy_stamp.specs.declared.Label.{Label}
use Rattle.hy_protocol.specs.declared.Phase.{Phase}
use Rattle.hy_protocol.specs.declared.Phase.TheVariants.{Working, Stamping, Undoing}
use Rattle.hy_protocol.specs.declared.Progress.TheVariants.{Moved, Answered}
use Rattle.hy_protocol.specs.Turns.{Turn, Done, Waits, Begins, Visits, Answers, Saves, Enters, Ends, unless_blocked, is_stamping}
use Rattle.hy_machine.specs.declared.Setting.{Setting}
use Rattle.hy_machine.specs.States.{State, Session, Finished, Open}
use Rattle.hy_machine.specs.Writes.{Write}
use Rattle.hy_machine.specs.Sessions.{session_at, program_of, txn_at, blocker_of, blocker}
use Rattle.hy_machine.specs.Turns.{turn, session_turn, phase_turn}
use Rattle.hy_machine.specs.TurnCases.{stamp_cases}
use Rattle.hy_machine.specs.Steps.{after_turn, step_of, after_visit}
use Rattle.hy_machine.specs.Measures.{steps_left}
use Rattle.hy_machine.specs.Runs.{is_moved, StepsFall}
use Rattle.hy_growing.specs.Growing.{IsAnswered, at_once, later, AreAnswered}
use Rattle.hy_growing.proofs.Turning.{IsOfOpen, phase_open}
use Rattle.hy_growing.proofs.Stands.{IsIdle}
use Rattle.hy_growing.proofs.Reaching.{own_after, step_within, answered_many}
use Rattle.hy_growing.proofs.Answering.{answered_txn}

-- ---- who is marked

-- an open transaction has its entry
abbrev HasEntered : Option Open → Type 0
HasEntered None = ⊥
HasEntered (Some current) = is_stamping current.phase ≡ true

-- nobody is marked, or this session is, and its open transaction has its entry
abbrev pub IsOwn : ℕ → State → Type 0
IsOwn number state = (state.mark ≡ None) ⊎ ((state.mark ≡ Some number) × HasEntered (session_at state number).now)

own_free : (state : State) (number : ℕ) → IsOwn number state → blocker state number ≡ None
own_free state number (inl none) = ap (blocker_of state number) none
own_free state number (inr own) = ap (blocker_of state number) own.0 ∙ rw (eq-eqb number number refl) refl

-- ---- a step that nobody blocks

went : (setting : Setting) (state : State) (number : ℕ) (turn : Turn Write) → (IsIdle turn → ⊥)
    → ((after_turn setting state number turn).1 ≡ Moved) ⊎ ((after_turn setting state number turn).1 ≡ Answered)
went setting state number Done n = absurd (n tt)
went setting state number (Waits by) n = absurd (n tt)
went setting state number Begins n = inr refl
went setting state number (Visits writes phase) n = inl refl
went setting state number (Answers writes reply took records) n = inr refl
went setting state number (Saves statement reply) n = inr refl
went setting state number Enters n = inl refl
went setting state number (Ends how) n = inr refl

begins : (by : Option Label) → by ≡ None → IsIdle (unless_blocked by Begins) → ⊥
begins None e i = i
begins (Some by) e i = absurd (cc e)

open_acts : (by : Option Label) (turn : Turn Write) → by ≡ None → IsOfOpen by turn → IsIdle turn → ⊥
open_acts by Done e o i = o
open_acts by (Waits other) e o i = absurd (cc (e, o))
open_acts by Begins e o i = i
open_acts by (Visits writes next) e o i = i
open_acts by (Answers writes reply took records) e o i = i
open_acts by (Saves statement reply) e o i = i
open_acts by Enters e o i = i
open_acts by (Ends how) e o i = i

not_idle : (setting : Setting) (state : State) (number : ℕ) (txn : Txn) (now : Option Open) → blocker state number ≡ None
    → IsIdle (session_turn setting state number (Some txn) now) → ⊥
not_idle setting state number txn None b i = begins (blocker state number) b i
not_idle setting state number txn (Some current) b i =
    open_acts (blocker state number) (phase_turn setting state number txn current.begun current.phase) b
    (phase_open setting state number txn current.begun current.phase) i

-- ---- a step that goes on marks no other session

not_begun : (setting : Setting) (state : State) (number : ℕ) (by : Option Label) → (after_turn setting state number (unless_blocked by Begins)).1 ≡ Moved → ⊥
not_begun setting state number None m = absurd (cc m)
not_begun setting state number (Some by) m = absurd (cc m)

-- what is stamping after a visit has its entry
entered_then : (visited : ℕ) (current : Open) (before after : Option Open) → before ≡ Some current → after ≡ option_map (after_visit [] (Stamping visited)) before
    → HasEntered after
entered_then visited current before after s e = subst HasEntered (sym (e ∙ ap (option_map (after_visit [] (Stamping visited))) s)) refl

free_then : (setting : Setting) (state : State) (number : ℕ) (current : Open) (turn : Turn Write) → number < length state.sessions
    → (session_at state number).now ≡ Some current → state.mark ≡ None
    → (after_turn setting state number turn).1 ≡ Moved → IsOwn number (after_turn setting state number turn).0
free_then setting state number current Done l s none m = absurd (cc m)
free_then setting state number current (Waits by) l s none m = absurd (cc m)
free_then setting state number current Begins l s none m = absurd (cc m)
free_then setting state number current (Visits writes phase) l s none m = inl none
free_then setting state number current (Answers writes reply took records) l s none m = absurd (cc m)
free_then setting state number current (Saves statement reply) l s none m = absurd (cc m)
free_then setting state number current Enters l s none m =
    inr (
      refl,
      entered_then 0 current (session_at state number).now (session_at (after_turn setting state number Enters).0 number).now s
          (ap (λ (one : Session). one.now) (own_after setting state number Enters l)),
    )
free_then setting state number current (Ends how) l s none m = absurd (cc m)

stamped_then : (setting : Setting) (state : State) (number : ℕ) (txn : Txn) (current : Open) (phase : Phase) → number < length state.sessions
    → (session_at state number).now ≡ Some current → state.mark ≡ Some number → is_stamping phase ≡ true
    → (after_turn setting state number (phase_turn setting state number txn current.begun phase)).1 ≡ Moved
    → IsOwn number (after_turn setting state number (phase_turn setting state number txn current.begun phase)).0
stamped_then setting state number txn current (Working visited count) l s own p m = absurd (cc p)
stamped_then setting state number txn current (Stamping visited) l s own p m =
    stamp_cases setting state number current.begun Keeps visited
    (λ few m. inr (
      own,
      entered_then (suc visited) current (session_at state number).now
          (session_at (after_turn setting state number (Visits [] (Stamping (suc visited)))).0 number).now s
          (ap (λ (one : Session). one.now) (own_after setting state number (Visits [] (Stamping (suc visited))) l)),
    ))
    (λ m. absurd (cc m)) m
  where
    Keeps : Turn Write → Type 0
    Keeps one = (after_turn setting state number one).1 ≡ Moved → IsOwn number (after_turn setting state number one).0
stamped_then setting state number txn current (Undoing visited cause) l s own p m = absurd (cc p)

moved_then : (setting : Setting) (state : State) (number : ℕ) (txn : Option Txn) (now : Option Open) → number < length state.sessions
    → (session_at state number).now ≡ now → IsOwn number state
    → (after_turn setting state number (session_turn setting state number txn now)).1 ≡ Moved
    → IsOwn number (after_turn setting state number (session_turn setting state number txn now)).0
moved_then setting state number None now l s o m = absurd (cc m)
moved_then setting state number (Some txn) None l s o m = absurd (not_begun setting state number (blocker state number) m)
moved_then setting state number (Some txn) (Some current) l s (inl none) m =
    free_then setting state number current (phase_turn setting state number txn current.begun current.phase) l s none m
moved_then setting state number (Some txn) (Some current) l s (inr own) m =
    stamped_then setting state number txn current current.phase l s own.0 (subst HasEntered s own.1) m

pub moved_own : (setting : Setting) (state : State) (number : ℕ) → number < length state.sessions → IsOwn number state
    → (step_of setting state number).1 ≡ Moved → IsOwn number (step_of setting state number).0
moved_own setting state number l o m =
    moved_then setting state number (txn_at setting number (session_at state number)) (session_at state number).now l refl o m

-- and ends no transaction
moved_done : (setting : Setting) (state : State) (number : ℕ) (turn : Turn Write) → number < length state.sessions → (after_turn setting state number turn).1 ≡ Moved
    → (session_at (after_turn setting state number turn).0 number).done ≡ (session_at state number).done
moved_done setting state number Done l m = absurd (cc m)
moved_done setting state number (Waits by) l m = absurd (cc m)
moved_done setting state number Begins l m = absurd (cc m)
moved_done setting state number (Visits writes phase) l m = ap (λ (one : Session). one.done) (own_after setting state number (Visits writes phase) l)
moved_done setting state number (Answers writes reply took records) l m = absurd (cc m)
moved_done setting state number (Saves statement reply) l m = absurd (cc m)
moved_done setting state number Enters l m = ap (λ (one : Session). one.done) (own_after setting state number Enters l)
moved_done setting state number (Ends how) l m = absurd (cc m)

-- ---- up to the answer

comes_by : StepsFall → (fuel : ℕ) (setting : Setting) (state : State) (number : ℕ) (txn : Txn) → number < length state.sessions → IsOwn number state
    → txn_at setting number (session_at state number) ≡ Some txn → steps_left setting number (session_at state number) < fuel
    → (next : State) × IsAnswered setting number state next
comes_by falls zero setting state number txn l o t h = absurd (omega (arith, h))
comes_by falls (suc fuel) setting state number txn l o t h = elim (went setting state number (turn setting state number) acts) [
  | inl m ↦
      let next : State = (step_of setting state number).0 in
      let less = falls setting state number (ap is_moved m) in
      let same : txn_at setting number (session_at next number) ≡ Some txn =
      ap (λ (done : List Finished). slice_get (program_of setting number) (length done)) (moved_done setting state number (turn setting state number) l m) ∙ t in
      let rest = comes_by falls fuel setting next number txn (step_within setting state number number l) (moved_own setting state number l o m) same
      (omega (arith, less, h)) in
      (rest.0, later state next rest.0 refl m rest.1)
  | inr a ↦ ((step_of setting state number).0, at_once state (step_of setting state number).0 refl a)
]
  where
    acts : IsIdle (turn setting state number) → ⊥
    acts i = not_idle setting state number txn (session_at state number).now (own_free state number o)
        (subst (λ (one : Option Txn). IsIdle (session_turn setting state number one (session_at state number).now)) t i)

pub comes_to_answer : StepsFall → (setting : Setting) (state : State) (number : ℕ) (txn : Txn) → number < length state.sessions → state.mark ≡ None
    → txn_at setting number (session_at state number) ≡ Some txn → (next : State) × IsAnswered setting number state next
comes_to_answer falls setting state number txn l m t =
    comes_by falls (suc (steps_left setting number (session_at state number))) setting state number txn l (inl m) t (omega arith)

-- ---- no mark after an answer

begun_unmarked : (setting : Setting) (state : State) (number : ℕ) (by : Option Label) → state.mark ≡ None
    → (after_turn setting state number (unless_blocked by Begins)).0.mark ≡ None
begun_unmarked setting state number None none = none
begun_unmarked setting state number (Some by) none = none

free_unmarked : (setting : Setting) (state : State) (number : ℕ) (turn : Turn Write) → state.mark ≡ None
    → (after_turn setting state number turn).1 ≡ Answered → (after_turn setting state number turn).0.mark ≡ None
free_unmarked setting state number Done none a = none
free_unmarked setting state number (Waits by) none a = none
free_unmarked setting state number Begins none a = none
free_unmarked setting state number (Visits writes phase) none a = none
free_unmarked setting state number (Answers writes reply took records) none a = none
free_unmarked setting state number (Saves statement reply) none a = none
free_unmarked setting state number Enters none a = absurd (cc a)
free_unmarked setting state number (Ends how) none a = refl

stamped_unmarked : (setting : Setting) (state : State) (number : ℕ) (txn : Txn) (current : Open) (phase : Phase) → is_stamping phase ≡ true
    → (after_turn setting state number (phase_turn setting state number txn current.begun phase)).1 ≡ Answered
    → (after_turn setting state number (phase_turn setting state number txn current.begun phase)).0.mark ≡ None
stamped_unmarked setting state number txn current (Working visited count) p a = absurd (cc p)
stamped_unmarked setting state number txn current (Stamping visited) p a =
    stamp_cases setting state number current.begun Unmarks visited (λ few a. absurd (cc a)) (λ a. refl) a
  where
    Unmarks : Turn Write → Type 0
    Unmarks one = (after_turn setting state number one).1 ≡ Answered → (after_turn setting state number one).0.mark ≡ None
stamped_unmarked setting state number txn current (Undoing visited cause) p a = absurd (cc p)

turn_unmarked : (setting : Setting) (state : State) (number : ℕ) (txn : Option Txn) (now : Option Open) → (session_at state number).now ≡ now → IsOwn number state
    → (after_turn setting state number (session_turn setting state number txn now)).1 ≡ Answered
    → (after_turn setting state number (session_turn setting state number txn now)).0.mark ≡ None
turn_unmarked setting state number None now s o a = absurd (cc a)
turn_unmarked setting state number (Some txn) None s (inl none) a = begun_unmarked setting state number (blocker state number) none
turn_unmarked setting state number (Some txn) None s (inr own) a = absurd (subst HasEntered s own.1)
turn_unmarked setting state number (Some txn) (Some current) s (inl none) a =
    free_unmarked setting state number (phase_turn setting state number txn current.begun current.phase) none a
turn_unmarked setting state number (Some txn) (Some current) s (inr own) a =
    stamped_unmarked setting state number txn current current.phase (subst HasEntered s own.1) a

pub answered_unmarked : (setting : Setting) (number : ℕ) (state next : State) → number < length state.sessions → IsOwn number state
    → IsAnswered setting number state next → next.mark ≡ None
answered_unmarked setting number state next l o (at_once _ _ e a) =
    ap (λ (to : State). to.mark) (sym e)
    ∙ turn_unmarked setting state number (txn_at setting number (session_at state number)) (session_at state number).now refl o a
answered_unmarked setting number state next l o (later _ mid _ e m rest) =
    answered_unmarked setting number mid next (subst (λ (to : State). number < length to.sessions) e (step_within setting state number number l))
    (subst (IsOwn number) e (moved_own setting state number l o m)) rest

-- ---- turns, one after another

-- a session that has a transaction before it has a script
scripted : (programs : List (List Txn)) (number n : ℕ) (txn : Txn) → slice_get (get_or programs number []) n ≡ Some txn → number < length programs
scripted [] number n txn e = absurd (cc e)
scripted (program ∷ programs) zero n txn e = omega arith
scripted (program ∷ programs) (suc number) n txn e = omega (arith, scripted programs number n txn e)

pub turns_unmarked : (setting : Setting) (turns : List ℕ) (state next : State) → length state.sessions ≡ length setting.programs → state.mark ≡ None
    → AreAnswered setting state turns next → next.mark ≡ None
turns_unmarked setting [] state next c none a = ap (λ (to : State). to.mark) (sym a) ∙ none
turns_unmarked setting (number ∷ turns) state next c none a =
    let has = answered_txn setting number state a.0 a.1 in
    let l = scripted setting.programs number (length (session_at state number).done) has.0 has.1 in
    turns_unmarked setting turns a.0 next (answered_many setting number state a.0 a.1 ∙ c)
    (answered_unmarked setting number state a.0 (omega (arith, l, c)) (inl none) a.1) a.2

pub turns_then : (setting : Setting) (turns : List ℕ) (number : ℕ) (state mid next : State) → AreAnswered setting state turns mid → IsAnswered setting number mid next
    → AreAnswered setting state (turns ++ number ∷ []) next
turns_then setting [] number state mid next a b = (next, subst (λ (from : State). IsAnswered setting number from next) (sym a) b, refl)
turns_then setting (one ∷ turns) number state mid next a b = (a.0, a.1, turns_then setting turns number a.0 mid next a.2 b)
