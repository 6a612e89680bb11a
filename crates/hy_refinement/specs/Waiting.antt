-- Who waits at the core.
use Rattle.std.specs.Prelude.{◌≡◌, ℕ, List, Some, slice_get}
use Rattle.hy_journal.specs.declared.CoreData.{CoreData}
use Rattle.hy_journal.specs.Core.{blocked_by}
use Rattle.hy_event.specs.declared.SessionData.{SessionData}
use Rattle.hy_event.specs.Sessions.{label_of}
use Rattle.hy_machine.specs.declared.Setting.{Setting}
use Rattle.hy_machine.specs.States.{State}
use Rattle.hy_machine.specs.Sessions.{blocker}
use Rattle.hy_refinement.specs.Numbers.{CoreShows}
use Rattle.hy_refinement.specs.Shows.{SessionsShow}

-- a session's step at the core is blocked by the transaction by which the machine's step is blocked, or by none
abbrev pub BlockersAreTheMachines : Type 0
BlockersAreTheMachines =
    (setting : Setting) (state : State) (core : CoreData) (sessions : List SessionData) (number : ℕ) (session : SessionData)
    → CoreShows state core sessions → SessionsShow setting state core sessions → slice_get sessions number ≡ Some session
    → blocked_by core (label_of session) ≡ blocker state number
