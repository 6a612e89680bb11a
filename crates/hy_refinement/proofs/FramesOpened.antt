-- The open transactions after one of them went on.
use Rattle.std.proofs.Common.{◌≡◌, ◌≢◌, ℕ, ◌-◌, List, length, set, Some, Bool}
use Rattle.std.proofs.Common.{refl, sym, ap, ◌∙◌, subst, inl, inr, cond}
use Rattle.std.specs.Prelude.{slice_get}
use Rattle.std.proofs.lemmas.Bool.{cases_eq}
use Rattle.std.proofs.lemmas.Option.{same_Some, slice_get_within}
use Rattle.std.proofs.lemmas.List.{get_or-set_same, get_or-set_other}
use Rattle.hy_event.specs.declared.SessionData.{SessionData}
use Rattle.hy_event.specs.declared.Open.{Open}
use Rattle.hy_machine.specs.declared.Setting.{Setting}
use Rattle.hy_machine.specs.States.{State, Session, Open as MachineOpen}
use Rattle.hy_machine.specs.Sessions.{fresh, session_at}
use Rattle.hy_refinement.specs.Stamped.{HasNotStamped, is_unstamped, entries_counted}
use Rattle.hy_refinement.specs.Transactions.{IsOpen, OfOpen}
use Rattle.hy_refinement.specs.Frames.{gone_on, went_on, sessions_on}
use Rattle.hy_refinement.proofs.Holders.{is_there}
use Rattle.hy_refinement.proofs.FramesLists.{got_set, got_other}

-- ---- the machine's sessions

pub goes_there : (state : State) (number : ℕ) (current later : MachineOpen) → (session_at state number).now ≡ Some current
    → session_at (gone_on state number later) number ≡ record { done = (session_at state number).done; now = Some later }
goes_there state number current later e =
    get_or-set_same state.sessions number (record { done = (session_at state number).done; now = Some later }) fresh
    (slice_get_within state.sessions number (session_at state number) (is_there state number current e))

pub stays_there : (state : State) (number other : ℕ) (later : MachineOpen) → other ≢ number
    → session_at (gone_on state number later) other ≡ session_at state other
stays_there state number other later apart =
    get_or-set_other state.sessions number other (record { done = (session_at state number).done; now = Some later }) fresh apart

-- a session's ended transactions stay
pub done_stays : (state : State) (number other : ℕ) (current later : MachineOpen) → (session_at state number).now ≡ Some current
    → (session_at (gone_on state number later) other).done ≡ (session_at state other).done
done_stays state number other current later e = elim (cases_eq other number) [
  | inl same ↦
      ap (λ (n : ℕ). (session_at (gone_on state number later) n).done) same
      ∙ (ap (λ (one : Session). one.done) (goes_there state number current later e)
      ∙ ap (λ (n : ℕ). (session_at state n).done) (sym same))
  | inr apart ↦ ap (λ (one : Session). one.done) (stays_there state number other later apart)
]

-- ---- open transactions

-- an open transaction is the one that went on, or another one, which stays
pub data WasOpen (state : State) (sessions : List SessionData) (number : ℕ) (session : SessionData) (then : Open) (later : MachineOpen)
    (other : ℕ) (another : SessionData) (its : Open) (present : MachineOpen) : Type 0 where
  same : other ≡ number → another ≡ went_on session then → its ≡ then → present ≡ later
      → WasOpen state sessions number session then later other another its present
  stays : other ≢ number → IsOpen state sessions other another its present
      → WasOpen state sessions number session then later other another its present

pub was_open : (state : State) (sessions : List SessionData) (number : ℕ) (session : SessionData) (now then : Open) (current later : MachineOpen)
    → IsOpen state sessions number session now current
    → (other : ℕ) (another : SessionData) (its : Open) (present : MachineOpen)
    → IsOpen (gone_on state number later) (sessions_on sessions number session then) other another its present
    → WasOpen state sessions number session then later other another its present
was_open state sessions number session now then current later is other another its present open' = elim (cases_eq other number) [
  | inl e ↦ here e
  | inr apart ↦ stays apart (record {
    found = sym (got_other sessions number other (went_on session then) apart) ∙ open'.found;
    open_here = open'.open_here;
    open_there = sym (ap (λ (one : Session). one.now) (stays_there state number other later apart)) ∙ open'.open_there;
  })
]
  where
    here : other ≡ number → WasOpen state sessions number session then later other another its present
    here e =
        let found : slice_get (set sessions number (went_on session then)) number ≡ Some another =
        sym (ap (slice_get (set sessions number (went_on session then))) e) ∙ open'.found in
        let one : went_on session then ≡ another =
        same_Some (went_on session then) another (sym (got_set sessions number session (went_on session then) is.found) ∙ found) in
        let there : Some later ≡ Some present =
        sym (ap (λ (n : ℕ). (session_at (gone_on state number later) n).now) e
        ∙ ap (λ (one : Session). one.now) (goes_there state number current later is.open_there)) ∙ open'.open_there in
        same e (sym one)
        (sym (same_Some then its (ap (λ (one : SessionData). one.now) one ∙ open'.open_here)))
        (sym (same_Some later present there))

-- it is open after it went on
pub opens_here : (state : State) (sessions : List SessionData) (number : ℕ) (session : SessionData) (now then : Open) (current later : MachineOpen)
    → IsOpen state sessions number session now current
    → IsOpen (gone_on state number later) (sessions_on sessions number session then) number (went_on session then) then later
opens_here state sessions number session now then current later is = record {
  found = got_set sessions number session (went_on session then) is.found;
  open_here = refl;
  open_there = ap (λ (one : Session). one.now) (goes_there state number current later is.open_there);
}

-- others are open still
pub opens_other : (state : State) (sessions : List SessionData) (number : ℕ) (session : SessionData) (then : Open) (later : MachineOpen)
    → (other : ℕ) (another : SessionData) (its : Open) (present : MachineOpen) → other ≢ number
    → IsOpen state sessions other another its present
    → IsOpen (gone_on state number later) (sessions_on sessions number session then) other another its present
opens_other state sessions number session then later other another its present apart is = record {
  found = got_other sessions number other (went_on session then) apart ∙ is.found;
  open_here = is.open_here;
  open_there = ap (λ (one : Session). one.now) (stays_there state number other later apart) ∙ is.open_there;
}

-- what is open under one number is one
pub record IsOne (session another : SessionData) (now then : Open) (current later : MachineOpen) : Type 0 where
  pub session_is : another ≡ session
  pub now_is : then ≡ now
  pub current_is : later ≡ current

pub open_once : (state : State) (sessions : List SessionData) (number other : ℕ) (session another : SessionData) (now then : Open) (current later : MachineOpen)
    → IsOpen state sessions number session now current → IsOpen state sessions other another then later → other ≡ number
    → IsOne session another now then current later
open_once state sessions number other session another now then current later is open' e =
    let found : another ≡ session = same_Some another session (sym open'.found ∙ (ap (slice_get sessions) e ∙ is.found)) in
    record {
      session_is = found;
      now_is = same_Some then now (sym open'.open_here ∙ (ap (λ (one : SessionData). one.now) found ∙ is.open_here));
      current_is = same_Some later current (sym open'.open_there ∙ (ap (λ (n : ℕ). (session_at state n).now) e ∙ is.open_there));
    }

-- ---- what counts in a chunk

-- where it has stamped the chunk or not as before, so have all
pub not_stamped_before : (setting : Setting) (state : State) (number other table chunk : ℕ) (later : MachineOpen)
    → is_unstamped setting (gone_on state number later) table chunk ≡ is_unstamped setting state table chunk
    → HasNotStamped setting (gone_on state number later) other table chunk → HasNotStamped setting state other table chunk
not_stamped_before setting state number other table chunk later e not_stamped = elim not_stamped [
  | inl unmarked ↦ inl unmarked
  | inr un ↦ inr (sym e ∙ un)
]

pub not_stamped_after : (setting : Setting) (state : State) (number other table chunk : ℕ) (later : MachineOpen)
    → is_unstamped setting (gone_on state number later) table chunk ≡ is_unstamped setting state table chunk
    → HasNotStamped setting state other table chunk → HasNotStamped setting (gone_on state number later) other table chunk
not_stamped_after setting state number other table chunk later e not_stamped = elim not_stamped [
  | inl unmarked ↦ inl unmarked
  | inr un ↦ inr (e ∙ un)
]

pub counted_same : (setting : Setting) (state : State) (number table chunk : ℕ) (later : MachineOpen)
    → is_unstamped setting (gone_on state number later) table chunk ≡ is_unstamped setting state table chunk
    → entries_counted setting (gone_on state number later) table chunk ≡ entries_counted setting state table chunk
counted_same setting state number table chunk later e =
    ap (λ (b : Bool). cond b (length state.order - 1) (length state.order)) e

-- what holds of the one that went on and of the others holds of every open transaction
pub each_open : (state : State) (sessions : List SessionData) (number : ℕ) (session : SessionData) (now then : Open) (current later : MachineOpen)
    → IsOpen state sessions number session now current → (holds : ℕ → SessionData → Open → MachineOpen → Type 0)
    → holds number (went_on session then) then later
    → ((other : ℕ) (another : SessionData) (its : Open) (present : MachineOpen) → IsOpen state sessions other another its present
    → holds other another its present)
    → OfOpen (gone_on state number later) (sessions_on sessions number session then) holds
each_open state sessions number session now then current later is holds mine others other another its present open' =
    by (was_open state sessions number session now then current later is other another its present open')
  where
    by : WasOpen state sessions number session then later other another its present → holds other another its present
    by (stays apart was) = others other another its present was
    by (same e f g h) =
        subst (λ (one : MachineOpen). holds other another its one) (sym h)
        (subst (λ (one : Open). holds other another one later) (sym g)
        (subst (λ (one : SessionData). holds other one then later) (sym f)
        (subst (λ (n : ℕ). holds n (went_on session then) then later) (sym e) mine)))
