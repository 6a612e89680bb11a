-- Whom a write is in conflict with.
use Rattle.std.specs.Prelude.{◌≡◌, ◌≢◌, ℕ, List, Some}
use Rattle.hy_value.specs.declared.Value.{Value}
use Rattle.hy_chain.specs.Chains.{rival}
use Rattle.hy_undo.specs.Places.{Place, sees}
use Rattle.hy_journal.specs.declared.CoreData.{CoreData}
use Rattle.hy_event.specs.declared.SessionData.{SessionData}
use Rattle.hy_event.specs.Sessions.{viewer_of}
use Rattle.hy_machine.specs.declared.Setting.{Setting}
use Rattle.hy_machine.specs.States.{State}
use Rattle.hy_machine.specs.Holding.{opponent}
use Rattle.hy_refinement.specs.Transactions.{OfOpen}
use Rattle.hy_refinement.specs.Numbers.{CoreShows}
use Rattle.hy_refinement.specs.Shows.{SessionsShow}
use Rattle.hy_refinement.specs.Places.{PlaceShows}
use Rattle.hy_refinement.specs.Pruned.{IsBelowIds}
use Rattle.hy_machine.specs.Kept.{Kept}

-- the core, the sessions and a position show a state that is kept
pub record ShownAt (setting : Setting) (state : State) (core : CoreData) (sessions : List SessionData) (table chunk pos : ℕ) (place : Place) : Type 0 where
  pub kept : Kept setting state
  pub below_ids : IsBelowIds core
  pub core_shows : CoreShows state core sessions
  pub sessions_show : SessionsShow setting state core sessions
  pub place_shows : PlaceShows setting state core sessions table chunk pos place

-- where an open transaction that has no entry yet sees a row, the newest record of the position names as its rival
-- exactly the machine's opponent
abbrev pub RivalsAreOpponents : Type 0
RivalsAreOpponents =
    (setting : Setting) (state : State) (core : CoreData) (sessions : List SessionData) (table chunk pos : ℕ) (place : Place)
    → ShownAt setting state core sessions table chunk pos place
    → OfOpen state sessions (λ number session now current.
    state.mark ≢ Some number → (row : List Value) → sees (viewer_of session now) place ≡ Some row
    → rival (viewer_of session now) place.chain ≡ opponent setting state number current.begun.prefix table pos)
