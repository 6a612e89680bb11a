-- What holds of the open transactions after one of them went on, and which chunks are stamped then.
use Rattle.std.proofs.Common.{◌≡◌, ◌≢◌, ℕ, List, Option, None, Some, refl, sym, ap, subst, not}
use Rattle.hy_event.specs.declared.SessionData.{SessionData}
use Rattle.hy_event.specs.declared.Open.{Open}
use Rattle.hy_machine.specs.declared.Setting.{Setting}
use Rattle.hy_machine.specs.States.{State, Session, Open as MachineOpen}
use Rattle.hy_machine.specs.Writes.{is_among}
use Rattle.hy_refinement.specs.Stamped.{is_unstamped, is_unstamped_by, stamped_chunks}
use Rattle.hy_refinement.specs.Transactions.{IsOpen, OfOpen}
use Rattle.hy_refinement.specs.Frames.{gone_on, went_on, sessions_on}
use Rattle.hy_refinement.proofs.FramesOpened.{stays_there, WasOpen, same, stays, was_open}

-- what holds of the one that went on, and of each other one as it is, holds of every open transaction then
pub each_apart : (holds : ℕ → SessionData → Open → MachineOpen → Type 0) (state : State) (sessions : List SessionData) (number : ℕ) (session : SessionData)
    (now then : Open) (current later : MachineOpen)
    → IsOpen state sessions number session now current → holds number (went_on session then) then later
    → ((other : ℕ) (one : SessionData) (present : Open) (there : MachineOpen) → other ≢ number → IsOpen state sessions other one present there
    → holds other one present there)
    → OfOpen (gone_on state number later) (sessions_on sessions number session then) holds
each_apart holds state sessions number session now then current later is mine others other one present there open' =
    by (was_open state sessions number session now then current later is other one present there open')
  where
    by : WasOpen state sessions number session then later other one present there → holds other one present there
    by (stays apart was) = others other one present there apart was
    by (same e f g h) =
        subst (λ (c : MachineOpen). holds other one present c) (sym h)
        (subst (λ (o : Open). holds other one o later) (sym g)
        (subst (λ (s : SessionData). holds other s then later) (sym f)
        (subst (λ (n : ℕ). holds n (went_on session then) then later) (sym e) mine)))

-- where another transaction is marked, or none, the same chunks are stamped then
pub unstamped_on : (setting : Setting) (state : State) (number table chunk : ℕ) (later : MachineOpen) → state.mark ≢ Some number
    → is_unstamped setting (gone_on state number later) table chunk ≡ is_unstamped setting state table chunk
unstamped_on setting state number table chunk later unmarked = by state.mark unmarked
  where
    by : (mark : Option ℕ) → mark ≢ Some number
        → is_unstamped_by setting (gone_on state number later) mark table chunk ≡ is_unstamped_by setting state mark table chunk
    by None other = refl
    by (Some marked) other =
        ap (λ (one : Session). not (is_among (stamped_chunks setting one.now) table chunk))
        (stays_there state number marked later (λ e. other (ap (λ (n : ℕ). Some n) e)))
