-- The entry of a transaction into the journal is the machine's.
use Rattle.std.proofs.Common.{◌≡◌, ℕ, ◌+◌, ◌*◌, List, [], Option, None, Some, false, sym, ap, ◌∙◌, subst}
use Rattle.std.specs.Prelude.{slice_set}
use Rattle.std.specs.Option.{option_map}
use Rattle.hy_journal.specs.declared.CoreData.{CoreData}
use Rattle.hy_journal.specs.Core.{core_entered}
use Rattle.hy_event.specs.declared.SessionData.{SessionData}
use Rattle.hy_event.specs.declared.Open.{Open}
use Rattle.hy_protocol.specs.declared.Phase.TheVariants as phase
use Rattle.hy_protocol.specs.declared.Progress.TheVariants as came_to
use Rattle.hy_event.specs.Sessions.{label_of as label_here, written}
use Rattle.hy_event.specs.Turns.{Step, after_entry}
use Rattle.hy_event.specs.CoreTurns.{entered_by}
use Rattle.hy_event.specs.Events.{Part, CorePart}
use Rattle.hy_machine.specs.declared.Setting.{Setting}
use Rattle.hy_machine.specs.States.{State, Open as MachineOpen}
use Rattle.hy_protocol.specs.Turns.{Enters, is_stamping}
use Rattle.hy_machine.specs.Writes.{written as written_there}
use Rattle.hy_machine.specs.Sessions.{session_at}
use Rattle.hy_machine.specs.Holding.{undone}
use Rattle.hy_machine.specs.Steps.{order_with, after_visit, after_turn}
use Rattle.hy_refinement.specs.Shows.{Shows}
use Rattle.hy_refinement.specs.Frames.{went_on, sessions_on}
use Rattle.hy_refinement.specs.Taken.{AtOpen, core_number}
use Rattle.hy_refinement.specs.CoreVisits.{IsFreeToGo, EntersAreTaken}
use Rattle.hy_refinement.proofs.RivalTops.{open_shown}
use Rattle.hy_refinement.proofs.NotedPlaces.{not_marked}
use Rattle.hy_refinement.proofs.Closes.{wrote_is, nobody_marked}
use Rattle.hy_refinement.proofs.Endings.{chunk_before, parts_after}
use Rattle.hy_refinement.proofs.EnteredStates.{entered_here, with_entry_of}
use Rattle.hy_refinement.proofs.EnteredCores.{core_entered_shows}
use Rattle.hy_refinement.proofs.CoreTaken.{core_taken}
use Rattle.hy_refinement.proofs.EnteredSessions.{sessions_entered_show}
use Rattle.hy_refinement.proofs.EnteredPlaces.{entered_shows}

module _ (setting : Setting) (state : State) (parts : List Part) (sessions : List SessionData) (number : ℕ) (session : SessionData)
    (now : Open) (current : MachineOpen) (at : AtOpen setting state parts sessions number session now current) (free : IsFreeToGo state number)
    (visited count : ℕ) (phase_is : now.phase ≡ phase.Working visited count) where
  abbrev core : CoreData
  core = at.shown.shows.core

  abbrev core_then : CoreData
  core_then = core_entered core (label_here session) now.start now.notes

  works : (is_stamping current.phase ≡ false) × (undone current.phase ≡ 0)
  works =
      let shows_open = open_shown setting state core sessions number session now current at.shown.shows.sessions_show at.is_open in
      let stands : current.phase ≡ phase.Working visited count = sym shows_open.open_shows.phase ∙ phase_is in
      (ap is_stamping stands, ap undone stands)

  unmarked : state.mark ≡ None
  unmarked = nobody_marked state number free (not_marked setting state number current at.shown.kept at.is_open.open_there works.0)

  wrote : written now ≡ written_there current.begun.own
  wrote = wrote_is setting state parts sessions number session now current at works.0

  shows_after : Shows setting (with_entry_of setting state number current) (slice_set parts (core_number setting) (CorePart core_then))
      (sessions_on sessions number session (entered_here core.next now))
  shows_after = record {
    core = core_then;
    parts_are = parts_after setting parts core core_then at.shown.shows.parts_are;
    core_shows = core_entered_shows setting state core sessions at.shown.kept at.shown.shows.core_shows at.shown.shows.sessions_show number session now current
        at.is_open unmarked wrote;
    sessions_show = sessions_entered_show setting state core sessions at.shown.kept at.shown.shows.core_shows at.shown.shows.sessions_show number session now
        current at.is_open unmarked;
    places_show = λ table chunk index part place of e.
        entered_shows setting state core sessions table chunk (chunk * setting.rows + index) place
        (record {
          kept = at.shown.kept;
          below_ids = at.shown.below_ids;
          core_shows = at.shown.shows.core_shows;
          sessions_show = at.shown.shows.sessions_show;
          place_shows = at.shown.shows.places_show table chunk index part place (chunk_before setting parts core core_then table chunk part of) e;
        })
        number session now current at.is_open unmarked works.1;
  }

  -- the machine's state after the turn
  state_is : with_entry_of setting state number current ≡ (after_turn setting state number Enters).0
  state_is =
      let by : Option MachineOpen → State = λ (o : Option MachineOpen). record {
        order = order_with setting state number o;
        mark = Some number;
        sessions = slice_set state.sessions number (record { done = (session_at state number).done; now = option_map (after_visit [] (phase.Stamping 0)) o });
      } in
      ap by (sym at.is_open.open_there)

pub enters_are : EntersAreTaken
enters_are setting state parts sessions number session now current visited count progress after new at free stands takes =
    let core = at.shown.shows.core in
    let entered : CoreData = core_entered core (label_here session) now.start now.notes in
    let left : Option Open → Step = λ (o : Option Open). (record session { now = option_map (after_entry core.next) o }, came_to.Moved) in
    core_taken setting state parts sessions number Enters (went_on session (entered_here core.next now)) entered
    (subst (λ (s : State). Shows setting s (slice_set parts (core_number setting) (CorePart entered))
    (sessions_on sessions number session (entered_here core.next now)))
    (state_is setting state parts sessions number session now current at free visited count stands.phase_is)
    (shows_after setting state parts sessions number session now current at free visited count stands.phase_is))
    progress after new (takes.0 ∙ ap left at.is_open.open_here) (takes.1 ∙ ap (entered_by session core) at.is_open.open_here)
