-- The open transactions after one of them has ended.
use Rattle.std.proofs.Common.{◌≡◌, ℕ, List, None, Some, sym, ap, ◌∙◌}
use Rattle.std.proofs.Common.{inl, inr}
use Rattle.std.specs.Prelude.{slice_get, slice_set}
use Rattle.std.proofs.lemmas.Bool.{cases_eq}
use Rattle.std.proofs.lemmas.List.{get_or-set_same, get_or-set_other}
use Rattle.std.proofs.lemmas.Option.{same_Some, slice_get_within}
use Rattle.hy_bound.specs.declared.Ending.{Ending}
use Rattle.hy_event.specs.declared.SessionData.{SessionData}
use Rattle.hy_event.specs.declared.Open.{Open}
use Rattle.hy_event.specs.Turns.{with_ended as ended_here}
use Rattle.hy_machine.specs.States.{State, Session, Open as MachineOpen}
use Rattle.hy_machine.specs.Sessions.{fresh, session_at}
use Rattle.hy_machine.specs.Steps.{with_session, with_ended, without_mark}
use Rattle.hy_refinement.specs.Transactions.{IsOpen, OfOpen}
use Rattle.hy_refinement.proofs.Holders.{is_there}
use Rattle.hy_refinement.proofs.FramesLists.{got_set, got_other}

-- the state where a session's open transaction has ended, and nobody is marked
abbrev pub ended : State → ℕ → Ending → State
ended state number ending = without_mark (with_session state number (with_ended ending (session_at state number)))

-- the sessions, of which one's open transaction has ended
abbrev pub sessions_ended : List SessionData → ℕ → SessionData → Ending → List SessionData
sessions_ended sessions number session ending = slice_set sessions number (ended_here ending session)

pub ended_other : (state : State) (number other : ℕ) (ending : Ending) → (other ≡ number → ⊥)
    → session_at (ended state number ending) other ≡ session_at state other
ended_other state number other ending apart = get_or-set_other state.sessions number other (with_ended ending (session_at state number)) fresh apart

pub ended_itself : (state : State) (number : ℕ) (current : MachineOpen) (ending : Ending) → (session_at state number).now ≡ Some current
    → session_at (ended state number ending) number ≡ with_ended ending (session_at state number)
ended_itself state number current ending is =
    get_or-set_same state.sessions number (with_ended ending (session_at state number)) fresh
    (slice_get_within state.sessions number (session_at state number) (is_there state number current is))

-- what holds of the other open transactions holds of every open one then
pub of_open_ended : (holds : ℕ → SessionData → Open → MachineOpen → Type 0) (state : State) (sessions : List SessionData) (number : ℕ) (session : SessionData)
    (now : Open) (current : MachineOpen) (ending : Ending)
    → IsOpen state sessions number session now current
    → ((other : ℕ) (one : SessionData) (present : Open) (there : MachineOpen) → (other ≡ number → ⊥) → IsOpen state sessions other one present there
    → holds other one present there)
    → OfOpen (ended state number ending) (sessions_ended sessions number session ending) holds
of_open_ended holds state sessions number session now current ending is others other one present there open' =
    elim (cases_eq other number) [
      | inl same ↦
          let one_is : ended_here ending session ≡ one = same_Some (ended_here ending session) one
          (sym (got_set sessions number session (ended_here ending session) is.found)
          ∙ (ap (slice_get (sessions_ended sessions number session ending)) (sym same) ∙ open'.found)) in
          absurd (let e : None ≡ Some present = ap (λ (s : SessionData). s.now) one_is ∙ open'.open_here in cc)
      | inr apart ↦ others other one present there apart (record {
        found = sym (got_other sessions number other (ended_here ending session) apart) ∙ open'.found;
        open_here = open'.open_here;
        open_there = sym (ap (λ (s : Session). s.now) (ended_other state number other ending apart)) ∙ open'.open_there;
      })
    ]

-- the others are open still
pub still_open : (state : State) (sessions : List SessionData) (number : ℕ) (session : SessionData) (ending : Ending)
    (other : ℕ) (one : SessionData) (present : Open) (there : MachineOpen) → (other ≡ number → ⊥) → IsOpen state sessions other one present there
    → IsOpen (ended state number ending) (sessions_ended sessions number session ending) other one present there
still_open state sessions number session ending other one present there apart open' = record {
  found = got_other sessions number other (ended_here ending session) apart ∙ open'.found;
  open_here = open'.open_here;
  open_there = ap (λ (s : Session). s.now) (ended_other state number other ending apart) ∙ open'.open_there;
}
