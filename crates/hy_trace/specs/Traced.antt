-- What it is that a world's steps are traced: whatever state it shows, the lines of the machine's steps from there are written.
use Rattle.std.specs.Prelude.{◌≡◌, ℕ, suc, ◌+◌, List, ◌∷◌, [], ◌++◌, Bool, Option, None, Some, is_none, option_and_then, slice_get, length}
use Rattle.hy_protocol.specs.declared.Progress.{Progress}
use Rattle.hy_render.specs.declared.Names.{Names}
use Rattle.hy_event.specs.declared.SessionData.{SessionData}
use Rattle.hy_event.specs.declared.Need.TheVariants.{Done}
use Rattle.hy_event.specs.Needs.{need_of}
use Rattle.hy_event.specs.Sessions.{label_of, txn_at}
use Rattle.hy_machine.specs.declared.Setting.{Setting}
use Rattle.hy_machine.specs.States.{State}
use Rattle.hy_machine.specs.Steps.{step_of}
use Rattle.hy_machine.specs.Runs.{after_steps}
use Rattle.hy_session.specs.Latest.{answered, phase_of}
use Rattle.hy_world.specs.Lines.{open_prefix_at, latest_reply_at, latest_ending_at}
use Rattle.hy_world.specs.Worlds.{WorldData, ShowsState}
use Rattle.hy_trace.specs.declared.standing.At.{At}
use Rattle.hy_trace.specs.declared.standing.Work.TheVariants.{Nothing}
use Rattle.hy_trace.specs.Standing.{Told, session_work}
use Rattle.hy_trace.specs.Trace.{line_by, lines_from}

-- ---- what a world shows of a session

abbrev pub session_stands : SessionData → At
session_stands session = record {
  label = label_of session;
  work = session_work (txn_at session) (phase_of session) (answered session);
  part = need_of session;
}

-- where a session stands; one that is not there has ended
abbrev pub stands_by : ℕ → Option SessionData → At
stands_by number None = record { label = record { session = number; txn = 1 }; work = Nothing; part = Done }
stands_by number (Some session) = session_stands session

abbrev pub stands_in : WorldData → ℕ → At
stands_in world number = stands_by number (slice_get world.sessions number)

-- whether it is at the end of its script
abbrev pub is_over_in : WorldData → ℕ → Bool
is_over_in world number = is_none (option_and_then txn_at (slice_get world.sessions number))

-- what is told of a session
abbrev pub told_in : WorldData → ℕ → Told
told_in world number = record {
  prefix = open_prefix_at world.sessions number;
  reply = latest_reply_at world.sessions number;
  phase = option_and_then phase_of (slice_get world.sessions number);
  ending = latest_ending_at world.sessions number;
  entries = length world.core.entries;
}

-- ---- lines

-- how many lines there are, and their text
abbrev pub Lines : Type 0
Lines = ℕ × List ℕ

-- a session's step leads to the state that is shown, and its line is written
pub record IsLine (names : Names) (setting : Setting) (state : State) (number : ℕ) (stepped : Progress) (new : WorldData) (before after : Lines)
    : Type 0 where
  pub shows : ShowsState setting (step_of setting state number).0 new
  pub answer : (step_of setting state number).1 ≡ stepped
  pub text : after.1 ≡ before.1 ++ lines_from names setting before.0 state (number ∷ [])
  pub count : after.0 ≡ suc before.0

abbrev pub WritesStep : Names → ℕ → Progress → WorldData → WorldData → Lines → Lines → Type 0
WritesStep names number stepped old new before after =
    (setting : Setting) (state : State) → ShowsState setting state old → IsLine names setting state number stepped new before after

-- steps lead to the state that is shown, and their lines are written
pub record AreLines (names : Names) (setting : Setting) (state : State) (numbers : List ℕ) (new : WorldData) (before after : Lines) : Type 0 where
  pub shows : ShowsState setting (after_steps setting state numbers) new
  pub text : after.1 ≡ before.1 ++ lines_from names setting before.0 state numbers
  pub count : after.0 ≡ before.0 + length numbers

-- so for the steps that are taken from each state that is shown
abbrev pub Writes : Names → (Setting → State → List ℕ) → WorldData → WorldData → Lines → Lines → Type 0
Writes names taken old new before after =
    (setting : Setting) (state : State) → ShowsState setting state old → AreLines names setting state (taken setting state) new before after
