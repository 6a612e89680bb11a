-- A visit of a session to the part that it needs is the machine's step, where a state is shown that it comes to.
use Rattle.std.proofs.Common.{◌≡◌, ℕ, ◌≤◌, List, [], length, Some, subst, arith}
use Rattle.std.specs.Prelude.{slice_get}
use Rattle.std.proofs.lemmas.Option.{slice_get_within}
use Rattle.hy_bound.specs.declared.Txn.{Txn}
use Rattle.hy_event.specs.declared.SessionData.{SessionData}
use Rattle.hy_event.specs.Events.{Part}
use Rattle.hy_machine.specs.declared.Setting.{Setting}
use Rattle.hy_machine.specs.States.{State}
use Rattle.hy_machine.specs.Sessions.{program_of}
use Rattle.hy_machine.specs.Kept.{Kept}
use Rattle.hy_lawful.specs.Kept.{ReachedAreKept}
use Rattle.hy_lawful.specs.Views.{ReachedViewsFit}
use Rattle.hy_refinement.specs.Labels.{HaveLabels}
use Rattle.hy_refinement.specs.Sessions.{SessionIs}
use Rattle.hy_refinement.specs.Steps.{HasLabel, EventsAreSteps}
use Rattle.hy_refinement.specs.Taken.{ShownState}
use Rattle.hy_stepping.specs.Runnable.{IsRunnable, IsShown}
use Rattle.hy_stepping.specs.Steps.{VisitsAreSteps}
use Rattle.hy_stepping.specs.Bounds.{RunsAreReached}
use Rattle.hy_stepping.proofs.Clock.{clock_below}
use Rattle.hy_stepping.proofs.FittedTables.{views_fit}
use Rattle.hy_stepping.proofs.OpenOnes.{kept_of, session_within, open_one}

-- ---- labels

-- a session that is at a transaction of its program has a label for it
pub has_label : (setting : Setting) (number : ℕ) (session : SessionData) → IsRunnable setting → SessionIs setting number session → HasLabel session
has_label setting number session runnable is txn at =
    let there : slice_get (program_of setting number) (length session.done) ≡ Some txn =
    subst (λ (program : List Txn). slice_get program (length session.done) ≡ Some txn) is.program at in
    let below = session_within setting number (length session.done) txn there in
    let within = slice_get_within (program_of setting number) (length session.done) txn there in
    let few : length (program_of setting number) ≤ 65535 = (runnable.fits.sessions number [] below).few in
    let sessions : length setting.programs ≤ 64 = runnable.fits.few_sessions in
    let same = is.number_is in
    record { from_one = omega arith; few = omega (arith, within, few); session = omega (arith, same, below, sessions) }

-- so has each that has an open one
pub have_labels : (setting : Setting) (state : State) (parts : List Part) (sessions : List SessionData) → Kept setting state
    → IsShown setting state parts sessions → HaveLabels state sessions
have_labels setting state parts sessions kept shown number session now current is =
    let shows = shown.shows.sessions_show.each number session is.found in
    let one = open_one setting state shown.shows.core number session now kept shows is.open_here in
    has_label setting number session shown.runnable shows.session_is one.txn one.txn_here

-- ---- the step

pub shown_state : (setting : Setting) (state : State) (parts : List Part) (sessions : List SessionData) → Kept setting state
    → IsShown setting state parts sessions → ShownState setting state parts sessions
shown_state setting state parts sessions kept shown = record {
  kept = kept;
  shows = shown.shows;
  below_ids = let below = clock_below setting state shown.shows.core sessions shown.runnable kept shown.shows.core_shows in omega (arith, below);
  labels = have_labels setting state parts sessions kept shown;
}

pub steps_shown : EventsAreSteps → ReachedAreKept → ReachedViewsFit → RunsAreReached → VisitsAreSteps
steps_shown events kept_law views runs setting state parts sessions number session part old progress after new shown found there needed visit =
    let kept = kept_of kept_law setting state parts sessions shown in
    let taken = events setting state parts sessions number session part old progress after new
    (shown_state setting state parts sessions kept shown) (views_fit views setting state shown.runnable shown.reached)
    (has_label setting number session shown.runnable (shown.shows.sessions_show.each number session found).session_is) found there needed visit in
    record {
      shown = record { runnable = shown.runnable; reached = runs.step setting state number shown.reached; shows = taken.shows };
      answer = taken.answer;
    }
