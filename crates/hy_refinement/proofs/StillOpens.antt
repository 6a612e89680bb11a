-- After one transaction went on, each open one is open still, with its label and its start.
use Rattle.std.proofs.Common.{◌≡◌, ℕ, List, refl, sym, ap, ◌∙◌, subst, inl, inr}
use Rattle.std.proofs.lemmas.Bool.{cases_eq}
use Rattle.hy_event.specs.declared.SessionData.{SessionData}
use Rattle.hy_event.specs.declared.Open.{Open}
use Rattle.hy_event.specs.Sessions.{label_of as label_here}
use Rattle.hy_machine.specs.States.{State, Open as MachineOpen}
use Rattle.hy_refinement.specs.Transactions.{IsOpen}
use Rattle.hy_refinement.specs.Frames.{gone_on, went_on, sessions_on}
use Rattle.hy_refinement.proofs.FramesOpened.{opens_here, opens_other, open_once}

-- an open transaction of a session, with this label and this start
pub record HasOpen (state : State) (sessions : List SessionData) (number : ℕ) (session : SessionData) (start : ℕ) : Type 0 where
  pub one : SessionData
  pub present : Open
  pub there : MachineOpen
  pub is_open : IsOpen state sessions number one present there
  pub label : label_here one ≡ label_here session
  pub start_is : present.start ≡ start

pub open_after : (state : State) (sessions : List SessionData) (number : ℕ) (session : SessionData) (now then : Open) (current later : MachineOpen)
    → IsOpen state sessions number session now current → then.start ≡ now.start
    → (other : ℕ) (one : SessionData) (present : Open) (there : MachineOpen) → IsOpen state sessions other one present there
    → HasOpen (gone_on state number later) (sessions_on sessions number session then) other one present.start
open_after state sessions number session now then current later is same_start other one present there open' = elim (cases_eq other number) [
  | inr apart ↦ record {
    one = one;
    present = present;
    there = there;
    is_open = opens_other state sessions number session then later other one present there apart open';
    label = refl;
    start_is = refl;
  }
  | inl same ↦
      let it = open_once state sessions number other session one now present current there is open' same in record {
        one = went_on session then;
        present = then;
        there = later;
        is_open = subst (λ (n : ℕ). IsOpen (gone_on state number later) (sessions_on sessions number session then) n (went_on session then) then later)
            (sym same) (opens_here state sessions number session now then current later is);
        label = ap label_here (sym it.session_is);
        start_is = same_start ∙ ap (λ (w : Open). w.start) (sym it.now_is);
      }
]
