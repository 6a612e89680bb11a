-- The last of some answered turns, by itself.
use Rattle.std.proofs.Common.{◌≡◌, ℕ, ◌<◌, List, [], ◌∷◌, ◌++◌, None, Some, length, refl, sym, ap, ◌∙◌, subst, inl, inr}
use Rattle.std.proofs.lemmas.Bool.{cases_lt}
use Rattle.std.proofs.lemmas.List.{get_or_past}
use Rattle.hy_event.specs.declared.lines.SessionLine.{SessionLine}
use Rattle.hy_event.specs.declared.lines.SessionLine.TheVariants.{Begin, Statement, Commit, Rollback}
use Rattle.hy_protocol.specs.declared.Phase.TheVariants.{Working}
use Rattle.hy_machine.specs.declared.Setting.{Setting}
use Rattle.hy_machine.specs.States.{State, Session, Open}
use Rattle.hy_machine.specs.Sessions.{fresh, session_at}
use Rattle.hy_machine.specs.Runs.{opening_of}
use Rattle.hy_growing.specs.Growing.{AreAnswered, AnswersAreWhole, IsAnswered, IsClosingLine, IsReady, IsWaiting}

-- turns that were answered, and one more
split : (setting : Setting) (turns : List ℕ) (state : State) (number : ℕ) (next : State) → AreAnswered setting state (turns ++ number ∷ []) next
    → (mid : State) × (AreAnswered setting state turns mid) × (IsAnswered setting number mid next)
split setting [] state number next answered = (state, refl, subst (IsAnswered setting number state) answered.2 answered.1)
split setting (one ∷ turns) state number next answered =
    let rest = split setting turns answered.0 number next answered.2 in
    (rest.0, (answered.0, answered.1, rest.1), rest.2)

-- it was answered from the state that those before it come to
pub last_answered : AnswersAreWhole → (setting : Setting) (turns : List ℕ) (state : State) (number : ℕ) (next : State)
    → AreAnswered setting (opening_of setting) turns state → AreAnswered setting (opening_of setting) (turns ++ number ∷ []) next
    → IsAnswered setting number state next
last_answered whole setting turns state number next before all =
    let parts = split setting turns (opening_of setting) number next all in
    let same : parts.0 ≡ state = sym (whole setting (opening_of setting) parts.0 turns parts.1) ∙ whole setting (opening_of setting) state turns before in
    subst (λ (from : State). IsAnswered setting number from next) same parts.2

-- ---- there is a session that has a transaction open

pub open_there : (state : State) (number : ℕ) (current : Open) → (session_at state number).now ≡ Some current → number < length state.sessions
open_there state number current e = elim (cases_lt number (length state.sessions)) [
  | inl within ↦ within
  | inr past ↦
      let none : (session_at state number).now ≡ None = ap (λ (session : Session). session.now) (get_or_past state.sessions number fresh past) in
      absurd cc
]

waits_there : (setting : Setting) (state : State) (number : ℕ) → IsWaiting setting state number → number < length state.sessions
waits_there setting state number waits =
    open_there state number (record { begun = waits.begun; phase = Working waits.visited waits.count }) waits.open_now

pub closes_there : (setting : Setting) (state : State) (number : ℕ) (line : SessionLine) → IsClosingLine line → IsReady setting state number line
    → number < length state.sessions
closes_there setting state number (Begin read_only) closes ready = absurd closes
closes_there setting state number (Statement bound) closes ready = absurd closes
closes_there setting state number Commit closes ready = waits_there setting state number ready
closes_there setting state number Rollback closes ready = waits_there setting state number ready
