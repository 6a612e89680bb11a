-- What is known of a session and of its open transaction where a state is shown that the machine comes to.
use Rattle.std.proofs.Common.{◌≡◌, ℕ, suc, ◌*◌, ◌<◌, List, [], ◌∷◌, length, Option, None, Some, refl, ap, ◌∙◌, subst, arith, inl, inr}
use Rattle.std.specs.Prelude.{slice_get}
use Rattle.std.specs.List.{All}
use Rattle.std.proofs.lemmas.Bool.{cases_lt}
use Rattle.std.proofs.lemmas.List.{get_or_past}
use Rattle.std.proofs.lemmas.Option.{get_or_from_slice_get, slice_get_within}
use Rattle.std.proofs.lemmas.Slice.Zip.{AllZip-long}
use Rattle.hy_bound.specs.declared.Txn.{Txn}
use Rattle.hy_bound.specs.Fits.{FitsRows, FitsTxn}
use Rattle.hy_render.specs.declared.TxnOutcome.{TxnOutcome}
use Rattle.hy_journal.specs.declared.CoreData.{CoreData}
use Rattle.hy_event.specs.declared.SessionData.{SessionData}
use Rattle.hy_event.specs.declared.Open.{Open}
use Rattle.hy_event.specs.Events.{Part}
use Rattle.hy_event.specs.Sessions.{txn_at as txn_of}
use Rattle.hy_machine.specs.declared.Setting.{Setting}
use Rattle.hy_machine.specs.States.{State, Finished, Open as MachineOpen}
use Rattle.hy_machine.specs.Sessions.{session_at, program_of, txn_at}
use Rattle.hy_machine.specs.Outcomes.{outcomes_from}
use Rattle.hy_machine.specs.Kept.{Kept, IsNow, PhaseFits}
use Rattle.hy_lawful.specs.Kept.{ReachedAreKept}
use Rattle.hy_refinement.specs.Sessions.{OpenShows, NowShows, SessionShows}
use Rattle.hy_stepping.specs.Runnable.{IsRunnable, IsShown}

-- ---- what is shown is kept

pub kept_of : ReachedAreKept → (setting : Setting) (state : State) (parts : List Part) (sessions : List SessionData)
    → IsShown setting state parts sessions → Kept setting state
kept_of law setting state parts sessions shown =
    law setting state (AllZip-long (FitsRows (setting.chunks * setting.rows)) setting.shapes setting.first shown.runnable.fits.first_rows) shown.reached

-- ---- the transaction that a session is at

-- as many transactions have ended in a session as in the machine's
outcomes_length : (setting : Setting) (number before : ℕ) (done : List Finished) → length (outcomes_from setting number before done) ≡ length done
outcomes_length setting number before [] = refl
outcomes_length setting number before (finished ∷ done) = let e = outcomes_length setting number (suc before) done in omega (arith, e)

pub same_ended : (setting : Setting) (state : State) (core : CoreData) (number : ℕ) (session : SessionData) → SessionShows setting state core number session
    → length session.done ≡ length (session_at state number).done
same_ended setting state core number session shows =
    ap (λ (done : List TxnOutcome). length done) shows.done_shows ∙ outcomes_length setting number 0 (session_at state number).done

-- a session is at the machine's transaction
pub same_txn : (setting : Setting) (state : State) (core : CoreData) (number : ℕ) (session : SessionData) → SessionShows setting state core number session
    → txn_of session ≡ txn_at setting number (session_at state number)
same_txn setting state core number session shows =
    ap (λ (n : ℕ). slice_get session.program n) (same_ended setting state core number session shows)
    ∙ ap (λ (program : List Txn). slice_get program (length (session_at state number).done)) shows.session_is.program

-- what holds of each holds of the one at an index
pub one_of_all : {X : Type 0} (P : X → Type 0) (xs : List X) (i : ℕ) (x : X) → All P xs → slice_get xs i ≡ Some x → P x
one_of_all P xs i x all e = subst P (get_or_from_slice_get xs i x x e) (all i x (slice_get_within xs i x e))

-- a session that has a transaction is one of the script
pub session_within : (setting : Setting) (number before : ℕ) (txn : Txn) → slice_get (program_of setting number) before ≡ Some txn
    → number < length setting.programs
session_within setting number before txn e = elim (cases_lt number (length setting.programs)) [
  | inl below ↦ below
  | inr past ↦ absurd (let f : None ≡ Some txn =
      subst (λ (txns : List Txn). slice_get txns before ≡ Some txn) (get_or_past setting.programs number [] past) e in cc)
]

-- and its transaction fits
pub txn_fits : (setting : Setting) (number before : ℕ) (txn : Txn) → IsRunnable setting → slice_get (program_of setting number) before ≡ Some txn
    → FitsTxn setting.shapes txn
txn_fits setting number before txn runnable e =
    one_of_all (FitsTxn setting.shapes) (program_of setting number) before txn
    (runnable.fits.sessions number [] (session_within setting number before txn e)).fit e

-- ---- an open transaction

-- the machine has it too, and shows it; it is one of the script, and stands where that lets it
pub record OpenOne (setting : Setting) (state : State) (core : CoreData) (number : ℕ) (session : SessionData) (now : Open) : Type 0 where
  pub current : MachineOpen
  pub is_now : IsNow state number current
  pub shows : OpenShows setting state core number now current
  pub txn : Txn
  pub txn_there : txn_at setting number (session_at state number) ≡ Some txn
  pub txn_here : txn_of session ≡ Some txn
  pub phase_fits : PhaseFits setting (Some txn) current.begun current.phase

pub open_one : (setting : Setting) (state : State) (core : CoreData) (number : ℕ) (session : SessionData) (now : Open) → Kept setting state
    → SessionShows setting state core number session → session.now ≡ Some now → OpenOne setting state core number session now
open_one setting state core number session now kept shows opened =
    by_now (session_at state number).now refl
    (subst (λ (here : Option Open). NowShows setting state core number here (session_at state number).now) opened shows.now_shows)
  where
    by_txn : (current : MachineOpen) → IsNow state number current → OpenShows setting state core number now current
        → (txn : Option Txn) → txn_at setting number (session_at state number) ≡ txn → PhaseFits setting txn current.begun current.phase
        → OpenOne setting state core number session now
    by_txn current is_now open_shows None txn_is fits = absurd fits
    by_txn current is_now open_shows (Some txn) txn_is fits = record {
      current = current;
      is_now = is_now;
      shows = open_shows;
      txn = txn;
      txn_there = txn_is;
      txn_here = same_txn setting state core number session shows ∙ txn_is;
      phase_fits = fits;
    }

    by_now : (there : Option MachineOpen) → (session_at state number).now ≡ there → NowShows setting state core number (Some now) there
        → OpenOne setting state core number session now
    by_now None is now_shows = absurd now_shows
    by_now (Some current) is now_shows =
        by_txn current is now_shows (txn_at setting number (session_at state number)) refl (kept.fits.opens number current is).phase
