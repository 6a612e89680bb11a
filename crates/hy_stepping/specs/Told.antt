-- What a session that is shown tells of its latest line is what the machine's tells.
use Rattle.std.specs.Prelude.{◌≡◌, ℕ, List, Some, slice_get}
use Rattle.std.specs.Option.{option_and_then, option_map}
use Rattle.hy_event.specs.declared.SessionData.{SessionData}
use Rattle.hy_event.specs.Events.{Part}
use Rattle.hy_machine.specs.declared.Setting.{Setting}
use Rattle.hy_machine.specs.States.{State, Session, Open, Finished}
use Rattle.hy_machine.specs.Sessions.{session_at}
use Rattle.hy_session.specs.Latest.{last_of, latest_ending, latest_reply, open_prefix}
use Rattle.hy_stepping.specs.Runnable.{IsShown}

-- how many entries the journal had at the BEGIN of its open transaction, the latest reply, and how its latest transaction ended
pub record TellsAs (told : SessionData) (session : Session) : Type 0 where
  pub prefix : open_prefix told ≡ option_map (λ (current : Open). current.begun.prefix) session.now
  pub reply : latest_reply told ≡ option_and_then (λ (current : Open). last_of current.begun.replies) session.now
  pub ending : latest_ending told ≡ option_map (λ (finished : Finished). finished.ending) (last_of session.done)

-- each session tells this as the machine's
abbrev pub SessionsTell : Type 0
SessionsTell =
    (setting : Setting) (state : State) (parts : List Part) (sessions : List SessionData) (number : ℕ) (session : SessionData)
    → IsShown setting state parts sessions → slice_get sessions number ≡ Some session → TellsAs session (session_at state number)
