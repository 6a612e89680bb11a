-- What a session that is shown tells of its latest line is what the machine's tells.
use Rattle.std.proofs.Common.{◌≡◌, ℕ, zero, suc, ◌-◌, List, [], ◌∷◌, length, Option, None, Some, refl, ap, ◌∙◌}
use Rattle.std.specs.Prelude.{slice_get}
use Rattle.std.specs.Option.{option_and_then, option_map}
use Rattle.hy_bound.specs.declared.Ending.{Ending}
use Rattle.hy_bound.specs.declared.Reply.{Reply}
use Rattle.hy_render.specs.declared.TxnOutcome.{TxnOutcome}
use Rattle.hy_journal.specs.declared.CoreData.{CoreData}
use Rattle.hy_event.specs.declared.SessionData.{SessionData}
use Rattle.hy_event.specs.declared.Open.{Open}
use Rattle.hy_machine.specs.declared.Setting.{Setting}
use Rattle.hy_machine.specs.States.{State, Finished, Open as MachineOpen}
use Rattle.hy_machine.specs.Outcomes.{outcomes_from}
use Rattle.hy_machine.specs.Sessions.{session_at}
use Rattle.hy_refinement.specs.Sessions.{NowShows, SessionShows}
use Rattle.hy_session.specs.Latest.{last_of}
use Rattle.hy_stepping.specs.Told.{SessionsTell, TellsAs}

prefix_told : (setting : Setting) (state : State) (core : CoreData) (number : ℕ) (here : Option Open) (there : Option MachineOpen)
    → NowShows setting state core number here there
    → option_map (λ (now : Open). now.prefix) here ≡ option_map (λ (current : MachineOpen). current.begun.prefix) there
prefix_told setting state core number None None shown = refl
prefix_told setting state core number None (Some current) shown = absurd shown
prefix_told setting state core number (Some now) None shown = absurd shown
prefix_told setting state core number (Some now) (Some current) shown = ap (λ (n : ℕ). Some n) shown.open_shows.prefix

reply_told : (setting : Setting) (state : State) (core : CoreData) (number : ℕ) (here : Option Open) (there : Option MachineOpen)
    → NowShows setting state core number here there
    → option_and_then (λ (now : Open). last_of now.replies) here ≡ option_and_then (λ (current : MachineOpen). last_of current.begun.replies) there
reply_told setting state core number None None shown = refl
reply_told setting state core number None (Some current) shown = absurd shown
reply_told setting state core number (Some now) None shown = absurd shown
reply_told setting state core number (Some now) (Some current) shown = ap (λ (replies : List Reply). last_of replies) shown.open_shows.replies

outcomes_length : (setting : Setting) (number before : ℕ) (done : List Finished) → length (outcomes_from setting number before done) ≡ length done
outcomes_length setting number before [] = refl
outcomes_length setting number before (finished ∷ done) = ap suc (outcomes_length setting number (suc before) done)

ending_there : (setting : Setting) (number before : ℕ) (done : List Finished) (i : ℕ)
    → option_map (λ (outcome : TxnOutcome). outcome.ending) (slice_get (outcomes_from setting number before done) i)
    ≡ option_map (λ (finished : Finished). finished.ending) (slice_get done i)
ending_there setting number before [] i = refl
ending_there setting number before (finished ∷ done) zero = refl
ending_there setting number before (finished ∷ done) (suc i) = ending_there setting number (suc before) done i

ending_told : (setting : Setting) (number : ℕ) (done : List Finished)
    → option_map (λ (outcome : TxnOutcome). outcome.ending) (last_of (outcomes_from setting number 0 done))
    ≡ option_map (λ (finished : Finished). finished.ending) (last_of done)
ending_told setting number done =
    ap (λ (long : ℕ). option_map (λ (outcome : TxnOutcome). outcome.ending) (slice_get (outcomes_from setting number 0 done) (long - 1)))
    (outcomes_length setting number 0 done)
    ∙ ending_there setting number 0 done (length done - 1)

session_told : (setting : Setting) (state : State) (core : CoreData) (number : ℕ) (session : SessionData)
    → SessionShows setting state core number session → TellsAs session (session_at state number)
session_told setting state core number session shows = record {
  prefix = prefix_told setting state core number session.now (session_at state number).now shows.now_shows;
  reply = reply_told setting state core number session.now (session_at state number).now shows.now_shows;
  ending =
      ap (λ (done : List TxnOutcome). option_map (λ (outcome : TxnOutcome). outcome.ending) (last_of done)) shows.done_shows
      ∙ ending_told setting number (session_at state number).done;
}

pub sessions_tell : SessionsTell
sessions_tell setting state parts sessions number session shown found =
    session_told setting state shown.shows.core number session (shown.shows.sessions_show.each number session found)
