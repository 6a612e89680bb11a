-- A line that comes to a session of a world, and what is told of its answer.
use Rattle.std.specs.Prelude.{◌≡◌, ℕ, List, Bool, false, Option, Some, is_some, slice_get, slice_set}
use Rattle.std.specs.Option.{option_and_then, option_map_or}
use Rattle.hy_bound.specs.declared.Ending.{Ending}
use Rattle.hy_bound.specs.declared.Reply.{Reply}
use Rattle.hy_event.specs.declared.SessionData.{SessionData}
use Rattle.hy_event.specs.declared.lines.SessionLine.{SessionLine}
use Rattle.hy_event.specs.Lines.{with_line}
use Rattle.hy_machine.specs.declared.Setting.{Setting}
use Rattle.hy_machine.specs.States.{State}
use Rattle.hy_growing.specs.Growing.{pushed}
use Rattle.hy_session.specs.Latest.{latest_ending, latest_reply, open_prefix}
use Rattle.hy_stepping.specs.Pushed.{AwaitsLine, FitsLine, IsTypedLine}
use Rattle.hy_world.specs.Worlds.{WorldData, ShowsState}

-- ---- a line comes

-- the session of this number awaits the line, which fits the tables and its script, and whose values are of its table's types
pub record Awaits (world : WorldData) (number : ℕ) (line : SessionLine) : Type 0 where
  pub session : SessionData
  pub found : slice_get world.sessions number ≡ Some session
  pub awaits : AwaitsLine session line
  pub fits : FitsLine session.shapes session.program line
  pub typed : IsTypedLine world.kinds session.shapes line

-- each state that was shown is shown in its setting with the line
abbrev pub Grows : ℕ → SessionLine → WorldData → WorldData → Type 0
Grows number line old new = (setting : Setting) (state : State) → ShowsState setting state old → ShowsState (pushed setting number line) state new

-- the session's script has the line, and all else is as it was
abbrev pub HasLine : ℕ → SessionLine → WorldData → WorldData → Type 0
HasLine number line old new = (session : SessionData) → slice_get old.sessions number ≡ Some session
    → new ≡ record old { sessions = slice_set old.sessions number (with_line session line) }

-- ---- what is told

-- whether the session of a number has a transaction open; one that is not there has none
abbrev pub is_open_at : List SessionData → ℕ → Bool
is_open_at sessions number = option_map_or (λ (session : SessionData). is_some session.now) (slice_get sessions number) false

-- how many entries the journal had at the BEGIN of its open transaction
abbrev pub open_prefix_at : List SessionData → ℕ → Option ℕ
open_prefix_at sessions number = option_and_then open_prefix (slice_get sessions number)

-- the reply to the latest statement of its open transaction
abbrev pub latest_reply_at : List SessionData → ℕ → Option Reply
latest_reply_at sessions number = option_and_then latest_reply (slice_get sessions number)

-- how its latest transaction ended
abbrev pub latest_ending_at : List SessionData → ℕ → Option Ending
latest_ending_at sessions number = option_and_then latest_ending (slice_get sessions number)
