-- The parts and the sessions of the engine show a state of the machine.
use Rattle.std.specs.Prelude.{◌≡◌, ℕ, List, [], None, Some, is_some, slice_get, length}
use Rattle.hy_journal.specs.declared.CoreData.{CoreData}
use Rattle.hy_undo.specs.Places.{Place, in_place}
use Rattle.hy_event.specs.declared.SessionData.{SessionData}
use Rattle.hy_event.specs.Events.{Part}
use Rattle.hy_machine.specs.declared.Setting.{Setting}
use Rattle.hy_machine.specs.States.{State}
use Rattle.hy_machine.specs.Positions.{item_at}
use Rattle.hy_machine.specs.Tables.{opening_tables}
use Rattle.hy_refinement.specs.Numbers.{CoreShows}
use Rattle.hy_refinement.specs.Sessions.{SessionIs, SessionShows}
use Rattle.hy_refinement.specs.Places.{PlaceShows}
use Rattle.hy_refinement.specs.Parts.{PartsAre, OfPlaces}

-- each session shows the machine's of its number, and there are no others
pub record SessionsShow (setting : Setting) (state : State) (core : CoreData) (sessions : List SessionData) : Type 0 where
  pub count : length sessions ≡ length setting.programs
  pub each : (number : ℕ) (session : SessionData) → slice_get sessions number ≡ Some session → SessionShows setting state core number session

-- the core, the sessions and every position of every chunk show the state
pub record Shows (setting : Setting) (state : State) (parts : List Part) (sessions : List SessionData) : Type 0 where
  pub core : CoreData
  pub parts_are : PartsAre setting parts core
  pub core_shows : CoreShows state core sessions
  pub sessions_show : SessionsShow setting state core sessions
  pub places_show : OfPlaces setting parts (PlaceShows setting state core sessions)

-- ---- the opening

-- a position as it is laid out: its first row is in place, if it has one, and it has no chain
pub record IsLaidOut (setting : Setting) (table pos : ℕ) (place : Place) : Type 0 where
  pub chain : place.chain ≡ []
  pub row : in_place place ≡ item_at (opening_tables setting) table pos
  pub used : place.used ≡ is_some (item_at (opening_tables setting) table pos)
  pub death : place.death ≡ 0

-- a session that has done nothing
pub record IsFresh (setting : Setting) (number : ℕ) (session : SessionData) : Type 0 where
  pub session_is : SessionIs setting number session
  pub done : session.done ≡ []
  pub now : session.now ≡ None

-- the core before the first BEGIN
abbrev pub blank_core : CoreData
blank_core = record { next = 1; active = []; entries = []; mark = None }

-- nothing has happened: the chunks have their first rows and no chain, the core is blank, the sessions have done nothing
pub record IsOpening (setting : Setting) (parts : List Part) (sessions : List SessionData) : Type 0 where
  pub parts_are : PartsAre setting parts blank_core
  pub places : OfPlaces setting parts (λ table chunk pos place. IsLaidOut setting table pos place)
  pub count : length sessions ≡ length setting.programs
  pub each : (number : ℕ) (session : SessionData) → slice_get sessions number ≡ Some session → IsFresh setting number session
