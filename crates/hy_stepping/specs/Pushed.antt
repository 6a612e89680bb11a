-- A script that grows by a line of a session which is ready for it: what was shown is shown still.
use Rattle.std.specs.Prelude.{◌≡◌, ℕ, suc, ◌<◌, List, [], ◌∷◌, ◌++◌, None, Some, slice_get, slice_set, length}
use Rattle.hy_value.specs.declared.Kind.{Kind}
use Rattle.hy_limits.specs.declared.TheConstants.{MOST_STATEMENTS, MOST_TXNS}
use Rattle.hy_bound.specs.declared.Bound.{Bound}
use Rattle.hy_bound.specs.declared.Shape.{Shape}
use Rattle.hy_bound.specs.declared.Txn.{Txn}
use Rattle.hy_bound.specs.Fits.{FitsStatement, MayStand}
use Rattle.hy_bound.specs.OpenSavepoints.{AreOpened}
use Rattle.hy_event.specs.declared.SessionData.{SessionData}
use Rattle.hy_event.specs.declared.Open.{Open}
use Rattle.hy_event.specs.declared.lines.SessionLine.{SessionLine}
use Rattle.hy_event.specs.declared.lines.SessionLine.TheVariants.{Begin, Statement, Commit, Rollback}
use Rattle.hy_event.specs.Events.{Part}
use Rattle.hy_event.specs.Lines.{with_line}
use Rattle.hy_event.specs.Sessions.{txn_at}
use Rattle.hy_protocol.specs.declared.Phase.TheVariants.{Working}
use Rattle.hy_machine.specs.declared.Setting.{Setting}
use Rattle.hy_machine.specs.States.{State}
use Rattle.hy_machine.specs.Sessions.{program_of}
use Rattle.hy_growing.specs.Growing.{pushed, IsReady}
use Rattle.hy_stepping.specs.Typed.{AreTyped, IsTypedIn}
use Rattle.hy_stepping.specs.Runnable.{IsRunnable, IsShown}

-- ---- lines that fit

-- something holds of the last, if there is one
abbrev pub OfLast : {A : Type 0} → (A → Type 0) → List A → Type 0
OfLast holds [] = Unit {0}
OfLast holds (x ∷ []) = holds x
OfLast holds (x ∷ y ∷ xs) = OfLast holds (y ∷ xs)

-- a statement may come next in a transaction: there is room for it, it fits the tables and may stand there, and a savepoint
-- that it names is open
pub record FitsNext (shapes : List Shape) (statement : Bound) (txn : Txn) : Type 0 where
  pub room : length txn.statements < MOST_STATEMENTS
  pub fits : FitsStatement shapes statement
  pub stands : MayStand txn.read_only statement
  pub opened : AreOpened (txn.statements ++ statement ∷ [])

-- a line fits these transactions: there is room for one more, or the statement may come next in the last one
abbrev pub FitsLine : List Shape → List Txn → SessionLine → Type 0
FitsLine shapes txns (Begin read_only) = length txns < MOST_TXNS
FitsLine shapes txns (Statement statement) = OfLast (FitsNext shapes statement) txns
FitsLine shapes txns Commit = Unit {0}
FitsLine shapes txns Rollback = Unit {0}

-- the values of a line are of the types of its table
abbrev pub IsTypedLine : List (List Kind) → List Shape → SessionLine → Type 0
IsTypedLine kinds shapes (Begin read_only) = Unit {0}
IsTypedLine kinds shapes (Statement statement) = IsTypedIn kinds shapes statement
IsTypedLine kinds shapes Commit = Unit {0}
IsTypedLine kinds shapes Rollback = Unit {0}

-- ---- a session that is ready for a line, as it is seen here

-- it is between two transactions, at its script's end
pub record HasEnded (session : SessionData) : Type 0 where
  pub closed : session.now ≡ None
  pub all : length session.done ≡ length session.program

-- its open transaction is the last of its script, all its statements are answered, and nothing is done of what closes it
pub record Waits (session : SessionData) : Type 0 where
  pub now : Open
  pub visited : ℕ
  pub count : ℕ
  pub txn : Txn
  pub open_now : session.now ≡ Some now
  pub works : now.phase ≡ Working visited count
  pub last : suc (length session.done) ≡ length session.program
  pub here : txn_at session ≡ Some txn
  pub answered : length now.replies ≡ length txn.statements

abbrev pub AwaitsLine : SessionData → SessionLine → Type 0
AwaitsLine session (Begin read_only) = HasEnded session
AwaitsLine session (Statement statement) = Waits session
AwaitsLine session Commit = Waits session
AwaitsLine session Rollback = Waits session

-- ---- laws

-- what is shown is shown with a line more that fits, where its session is ready for it
abbrev pub LinesAreShown : Type 0
LinesAreShown =
    (setting : Setting) (state : State) (parts : List Part) (sessions : List SessionData) (number : ℕ) (session : SessionData) (line : SessionLine)
    → IsShown setting state parts sessions → slice_get sessions number ≡ Some session → IsReady setting state number line
    → FitsLine setting.shapes session.program line
    → IsShown (pushed setting number line) state parts (slice_set sessions number (with_line session line))

-- the engine runs scripts that are longer by a line that fits
abbrev pub LinesAreRunnable : Type 0
LinesAreRunnable =
    (setting : Setting) (number : ℕ) (line : SessionLine) → IsRunnable setting → number < length setting.programs
    → FitsLine setting.shapes (program_of setting number) line → IsRunnable (pushed setting number line)

-- and what is run is of the types of its tables' columns, where the line is
abbrev pub LinesAreTyped : Type 0
LinesAreTyped =
    (setting : Setting) (kinds : List (List Kind)) (number : ℕ) (line : SessionLine)
    → AreTyped kinds setting.shapes setting.first setting.programs → IsTypedLine kinds setting.shapes line
    → AreTyped kinds setting.shapes setting.first (pushed setting number line).programs

-- a session awaits a line exactly where the machine's is ready for it
pub record AwaitedIsReady : Type 0 where
  pub ready : (setting : Setting) (state : State) (parts : List Part) (sessions : List SessionData) (number : ℕ) (session : SessionData) (line : SessionLine)
      → IsShown setting state parts sessions → slice_get sessions number ≡ Some session → AwaitsLine session line → IsReady setting state number line
  pub awaited : (setting : Setting) (state : State) (parts : List Part) (sessions : List SessionData) (number : ℕ) (session : SessionData) (line : SessionLine)
      → IsShown setting state parts sessions → slice_get sessions number ≡ Some session → IsReady setting state number line → AwaitsLine session line
