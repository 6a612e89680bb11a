-- Where sessions that are shown are at their end, the machine's have ended, and none of them has an open transaction.
use Rattle.std.proofs.Common.{◌≡◌, ℕ, zero, suc, ◌+◌, ◌<◌, ◌≤◌, List, [], ◌∷◌, length, get_or, Option, None, Bool, true}
use Rattle.std.proofs.Common.{refl, sym, ap, ◌∙◌, subst, arith, inl, inr}
use Rattle.std.specs.Prelude.{◌&&◌, ◌==◌}
use Rattle.std.proofs.lemmas.Bool.{cases_lt, eq-eqb, ne_eqb, eqb-true, and_parts, false_from_ne_true}
use Rattle.std.proofs.lemmas.List.{get_or_past}
use Rattle.std.proofs.lemmas.Option.{slice_get_cases, slice_get_past, get_or_from_slice_get, none-some}
use Rattle.hy_bound.specs.declared.Txn.{Txn}
use Rattle.hy_journal.specs.declared.CoreData.{CoreData}
use Rattle.hy_event.specs.declared.SessionData.{SessionData}
use Rattle.hy_event.specs.declared.Need.{Need}
use Rattle.hy_event.specs.declared.Need.TheVariants.{Core, Chunk, Done}
use Rattle.hy_event.specs.Needs.{need_of, session_need}
use Rattle.hy_event.specs.Events.{Part}
use Rattle.hy_machine.specs.declared.Setting.{Setting}
use Rattle.hy_machine.specs.States.{State, Session, Open as MachineOpen}
use Rattle.hy_machine.specs.Sessions.{fresh, session_at, program_of, txn_at, has_ended}
use Rattle.hy_machine.specs.Runs.{all_ended_from}
use Rattle.hy_machine.specs.Kept.{Fits, IsNow, PhaseFits}
use Rattle.hy_lawful.specs.Kept.{ReachedAreKept}
use Rattle.hy_refinement.specs.Sessions.{SessionShows}
use Rattle.hy_stepping.specs.Runnable.{IsShown}
use Rattle.hy_stepping.specs.Outcomes.{is_done, are_done, EndsAreTheMachines}
use Rattle.hy_stepping.proofs.OpenOnes.{kept_of, same_ended}
use Rattle.hy_stepping.proofs.EndedStay.{done_at_none}
use Rattle.hy_stepping.proofs.OutcomesPairs.{EachFrom, each_from}

-- ---- a session is done where it has ended as many transactions as its program has

done_so : (need : Need) → is_done need ≡ true → need ≡ Done
done_so Core e = absurd cc
done_so (Chunk table chunk) e = absurd cc
done_so Done e = refl

done_by_count : (session : SessionData) (program : List Txn) (count : ℕ) → session.program ≡ program → length session.done ≡ count → count ≤ length program
    → is_done (need_of session) ≡ (count == length program)
done_by_count session program count same long within =
    let size : length session.program ≡ length program = ap (λ (txns : List Txn). length txns) same in
    let where_it_is = (slice_get_cases session.program (length session.done)).1 in
    elim where_it_is [
      | inl there ↦
          let less = there.1 in
          false_from_ne_true (is_done (need_of session))
          (λ e. none-some there.0 (sym (done_at_none session (done_so (need_of session) e)) ∙ there.2))
          ∙ sym (ne_eqb count (length program) (λ e. absurd (omega (arith, e, less, size, long))))
      | inr past ↦
          let most = past.0 in
          ap (λ (next : Option Txn). is_done (session_need session next session.now)) past.1
          ∙ sym (eq-eqb count (length program) (omega (arith, most, size, long, within)))
    ]

-- ---- a session that is shown

session_ends : (setting : Setting) (state : State) (core : CoreData) (number : ℕ) (session : SessionData) → Fits setting state
    → SessionShows setting state core number session → is_done (need_of session) ≡ has_ended setting number (session_at state number)
session_ends setting state core number session fits shows =
    done_by_count session (program_of setting number) (length (session_at state number).done) shows.session_is.program
    (same_ended setting state core number session shows) (fits.within number)

-- a session of the engine and the one of the machine that it shows
pub record ShowsOne (setting : Setting) (state : State) (core : CoreData) (number : ℕ) (session : SessionData) (other : Session) : Type 0 where
  pub shows : SessionShows setting state core number session
  pub is : session_at state number ≡ other

pub shown_each : (setting : Setting) (state : State) (parts : List Part) (sessions : List SessionData) (shown : IsShown setting state parts sessions)
    → Fits setting state → EachFrom (ShowsOne setting state shown.shows.core) 0 sessions state.sessions
shown_each setting state parts sessions shown fits =
    each_from (ShowsOne setting state shown.shows.core) 0 sessions state.sessions (shown.shows.sessions_show.count ∙ sym fits.count)
    (λ index number session other e f g.
    let same : index ≡ number = omega (arith, e) in
    subst (λ (n : ℕ). ShowsOne setting state shown.shows.core n session other) same (record {
      shows = shown.shows.sessions_show.each index session f;
      is = get_or_from_slice_get state.sessions index other fresh g;
    }))

-- ---- all of them

ends_from : (setting : Setting) (state : State) (core : CoreData) (first : ℕ) (here : List SessionData) (there : List Session) → Fits setting state
    → EachFrom (ShowsOne setting state core) first here there → are_done here ≡ all_ended_from setting first there
ends_from setting state core first [] [] fits each = refl
ends_from setting state core first [] (other ∷ there) fits each = absurd each
ends_from setting state core first (session ∷ here) [] fits each = absurd each
ends_from setting state core first (session ∷ here) (other ∷ there) fits each =
    let one : ShowsOne setting state core first session other = each.0 in
    ap (λ (b : Bool). b && are_done here) (session_ends setting state core first session fits one.shows ∙ ap (has_ended setting first) one.is)
    ∙ ap (λ (b : Bool). has_ended setting first other && b) (ends_from setting state core (suc first) here there fits each.1)

pub ends_are : ReachedAreKept → EndsAreTheMachines
ends_are reached setting state parts sessions shown =
    let fits : Fits setting state = (kept_of reached setting state parts sessions shown).fits in
    ends_from setting state shown.shows.core 0 sessions state.sessions fits (shown_each setting state parts sessions shown fits)

-- ---- none is open

ended_at : (setting : Setting) (first : ℕ) (sessions : List Session) → all_ended_from setting first sessions ≡ true
    → (index number : ℕ) → number ≡ first + index → index < length sessions → has_ended setting number (get_or sessions index fresh) ≡ true
ended_at setting first [] ended index number e below = absurd (omega (arith, below))
ended_at setting first (session ∷ sessions) ended zero number e below =
    let same : first ≡ number = omega (arith, e) in
    subst (λ (n : ℕ). has_ended setting n session ≡ true) same
    (and_parts (has_ended setting first session) (all_ended_from setting (suc first) sessions) ended).0
ended_at setting first (session ∷ sessions) ended (suc index) number e below =
    ended_at setting (suc first) sessions (and_parts (has_ended setting first session) (all_ended_from setting (suc first) sessions) ended).1
    index number (omega (arith, e)) (omega (arith, below))

pub none_open : (setting : Setting) (state : State) → Fits setting state → all_ended_from setting 0 state.sessions ≡ true
    → (number : ℕ) (current : MachineOpen) → IsNow state number current → ⊥
none_open setting state fits ended number current now = elim (cases_lt number (length state.sessions)) [
  | inl below ↦
      let here : Session = session_at state number in
      let same : length here.done ≡ length (program_of setting number) =
      eqb-true (length here.done) (length (program_of setting number)) (ended_at setting 0 state.sessions ended number number (omega arith) below) in
      let away : txn_at setting number here ≡ None = slice_get_past (program_of setting number) (length here.done) (omega (arith, same)) in
      subst (λ (next : Option Txn). PhaseFits setting next current.begun current.phase) away (fits.opens number current now).phase
  | inr past ↦ none-some current (sym (ap (λ (one : Session). one.now) (get_or_past state.sessions number fresh past)) ∙ now)
]
