-- A visit of the core may be made where a state is shown that the machine comes to.
use Rattle.std.proofs.Common.{◌≡◌, ℕ, List, Option, None, Some, refl}
use Rattle.std.specs.Prelude.{slice_get}
use Rattle.hy_event.specs.declared.SessionData.{SessionData}
use Rattle.hy_event.specs.declared.Open.{Open}
use Rattle.hy_event.specs.Events.{Part}
use Rattle.hy_machine.specs.declared.Setting.{Setting}
use Rattle.hy_machine.specs.States.{State}
use Rattle.hy_machine.specs.Kept.{Kept}
use Rattle.hy_lawful.specs.Kept.{ReachedAreKept}
use Rattle.hy_session.specs.Near.{IsActive}
use Rattle.hy_stepping.specs.Runnable.{IsShown}
use Rattle.hy_stepping.specs.Steps.{CoresAreNear}
use Rattle.hy_stepping.proofs.Clock.{clock_below, entries_below}
use Rattle.hy_stepping.proofs.OpenOnes.{kept_of, open_one}

-- the start of an open transaction is open in the core
is_active : (setting : Setting) (state : State) (parts : List Part) (sessions : List SessionData) (number : ℕ) (session : SessionData)
    → Kept setting state → (shown : IsShown setting state parts sessions) → slice_get sessions number ≡ Some session
    → (now : Option Open) → session.now ≡ now → IsActive shown.shows.core.active now
is_active setting state parts sessions number session kept shown found None is = tt
is_active setting state parts sessions number session kept shown found (Some now) is =
    let one = open_one setting state shown.shows.core number session now kept (shown.shows.sessions_show.each number session found) is in
    shown.shows.core_shows.active_is.has number session now one.current (record { found = found; open_here = is; open_there = one.is_now })

pub cores_near : ReachedAreKept → CoresAreNear
cores_near law setting state parts sessions number session shown found need =
    let kept = kept_of law setting state parts sessions shown in
    record {
      clock = clock_below setting state shown.shows.core sessions shown.runnable kept shown.shows.core_shows;
      few = entries_below setting state shown.shows.core sessions shown.runnable kept shown.shows.core_shows;
      active = is_active setting state parts sessions number session kept shown found session.now refl;
    }
