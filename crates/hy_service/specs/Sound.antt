-- What holds of a service that lines lead to, and when it can take a line of a session.
use Rattle.std.specs.Prelude.{◌≡◌, ℕ, ◌==◌, ◌<◌, Bool, true, false, not, List, [], ◌∷◌, Option, None, Some, length, option_map}
use Rattle.hy_limits.specs.declared.TheConstants.{MOST_SESSIONS}
use Rattle.hy_bound.specs.declared.Bound.{Bound}
use Rattle.hy_bound.specs.declared.Txn.{Txn}
use Rattle.hy_event.specs.declared.lines.SessionLine.{SessionLine}
use Rattle.hy_growing.specs.Growing.{IsReady, BetweenLines}
use Rattle.hy_machine.specs.Runs.{opening_of}
use Rattle.hy_machine.specs.Sessions.{program_of, session_at}
use Rattle.hy_machine.specs.States.{Open}
use Rattle.hy_script.specs.declared.Options.{Options}
use Rattle.hy_script.specs.declared.judging.Standing.{Standing}
use Rattle.hy_script.specs.Refusals.{no_statements, with_bound}
use Rattle.hy_serving.specs.declared.Desk.{Desk}
use Rattle.hy_serving.specs.Fitting.{FitsDesk}
use Rattle.hy_serving.specs.Saying.{place_at}
use Rattle.hy_session.specs.Latest.{last_of}
use Rattle.hy_setting.specs.Kinds.{catalog_kinds}
use Rattle.hy_stepping.specs.Pushed.{FitsLine, IsTypedLine}
use Rattle.hy_stepping.specs.Runnable.{IsRunnable}
use Rattle.hy_stepping.specs.Typed.{AreTyped}
use Rattle.hy_service.specs.Service.{Service, no_programs, setting_of}

-- the values are of the types of the tables' columns
abbrev pub IsTypedService : Options → Service → Type 0
IsTypedService options service =
    AreTyped (catalog_kinds service.desk.sofar.catalog) (setting_of options service).shapes (setting_of options service).first service.programs

-- there is a session
abbrev pub has_sessions : Desk → Bool
has_sessions desk = not (length desk.sofar.names == 0)

-- before the first turn no session has anything to do
abbrev pub IsUnused : Options → Service → Type 0
IsUnused options service =
    service.turns ≡ [] → (service.programs ≡ no_programs) × (service.state ≡ opening_of (setting_of options service))

-- A service can take a line of the session of this number: the engine can run what it knows, and the session awaits the line, which
-- fits and is typed.
pub record CanTake (options : Options) (service : Service) (number : ℕ) (line : SessionLine) : Type 0 where
  pub named : has_sessions service.desk ≡ true
  pub runnable : IsRunnable (setting_of options service)
  pub typed : IsTypedService options service
  pub unused : IsUnused options service
  pub all : length service.programs ≡ MOST_SESSIONS
  pub within : number < MOST_SESSIONS
  pub ready : IsReady (setting_of options service) service.state number line
  pub fits : FitsLine (setting_of options service).shapes (program_of (setting_of options service) number) line
  pub typed_line : IsTypedLine (catalog_kinds service.desk.sofar.catalog) (setting_of options service).shapes line

-- what the next statement of a transaction is judged by
abbrev pub standing_after : Standing → List Bound → Standing
standing_after standing [] = standing
standing_after standing (bound ∷ bounds) = standing_after (with_bound standing bound) bounds

abbrev pub standing_in : Txn → Standing
standing_in txn = standing_after (no_statements txn.read_only) txn.statements

-- the open transaction of a session is the last of its script
abbrev pub standing_of : Option Open → List Txn → Option Standing
standing_of None txns = None
standing_of (Some current) txns = option_map standing_in (last_of txns)

-- the desk and the machine agree on a session: how many transactions it has begun, and what its open one is
pub record AgreesAt (options : Options) (service : Service) (number : ℕ) : Type 0 where
  pub txns : (place_at service.desk number).txns ≡ length (program_of (setting_of options service) number)
  pub standing : (place_at service.desk number).standing
      ≡ standing_of (session_at service.state number).now (program_of (setting_of options service) number)

-- What the lines have come to fits, the engine can run it, its sessions are between two lines, and the desk knows which have a
-- transaction open. No session took a turn before there was one.
pub record IsSound (options : Options) (service : Service) : Type 0 where
  pub desk : FitsDesk options service.desk
  pub unnamed : has_sessions service.desk ≡ false → service.turns ≡ []
  pub runnable : IsRunnable (setting_of options service)
  pub typed : IsTypedService options service
  pub unused : IsUnused options service
  pub all : length service.programs ≡ MOST_SESSIONS
  pub between : BetweenLines (setting_of options service) service.turns service.state
  pub agrees : (number : ℕ) → number < MOST_SESSIONS → AgreesAt options service number
