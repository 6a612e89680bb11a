-- A BEGIN is the machine's.
use Rattle.std.proofs.Common.{◌≡◌, ℕ, ◌+◌, ◌*◌, List, Option, None, Some, refl, sym, ◌∙◌, subst}
use Rattle.std.specs.Prelude.{slice_set}
use Rattle.hy_stamp.specs.declared.Label.{Label}
use Rattle.hy_stamp.specs.Times.{IsLabel, id_of}
use Rattle.hy_journal.specs.declared.CoreData.{CoreData}
use Rattle.hy_journal.specs.Core.{core_begun}
use Rattle.hy_event.specs.declared.SessionData.{SessionData}
use Rattle.hy_event.specs.declared.Open.{Open}
use Rattle.hy_event.specs.Turns.{beginning}
use Rattle.hy_event.specs.Events.{Part, CorePart}
use Rattle.hy_machine.specs.declared.Setting.{Setting}
use Rattle.hy_machine.specs.States.{State, Open as MachineOpen}
use Rattle.hy_protocol.specs.Turns.{Begins}
use Rattle.hy_machine.specs.Sessions.{session_at}
use Rattle.hy_refinement.specs.Sessions.{NowShows}
use Rattle.hy_refinement.specs.Shows.{Shows}
use Rattle.hy_refinement.specs.Taken.{core_number}
use Rattle.hy_refinement.specs.Frames.{went_on, sessions_on}
use Rattle.hy_refinement.specs.CoreVisits.{AtRest, IsFreeToGo, BeginsAreTaken}
use Rattle.hy_refinement.proofs.CoreTaken.{core_taken}
use Rattle.hy_refinement.proofs.Closes.{nobody_marked}
use Rattle.hy_refinement.proofs.Endings.{chunk_before, parts_after}
use Rattle.hy_refinement.proofs.BegunStates.{begun_state, rests_there}
use Rattle.hy_refinement.proofs.BegunCores.{Beginning, core_begun_shows}
use Rattle.hy_refinement.proofs.BegunSessions.{sessions_begun_show}
use Rattle.hy_refinement.proofs.BegunPlaces.{place_begun_shows}

-- what is known of identifiers: labels differ where they do not
abbrev pub OneId : Type 0
OneId = (a b : Label) → IsLabel a → IsLabel b → id_of a ≡ id_of b → a ≡ b

module _ (setting : Setting) (state : State) (parts : List Part) (sessions : List SessionData) (number : ℕ) (session : SessionData)
    (one_id : OneId) (at : AtRest setting state parts sessions number session) (free : IsFreeToGo state number) where
  abbrev core : CoreData
  core = at.shown.shows.core

  -- the machine's session has no open transaction
  rests_in_machine : (session_at state number).now ≡ None
  rests_in_machine = by_now (session_at state number).now
      (subst (λ (here : Option Open). NowShows setting state core number here (session_at state number).now) at.rests
      (at.shown.shows.sessions_show.each number session at.found).now_shows)
    where
      by_now : (there : Option MachineOpen) → NowShows setting state core number None there → there ≡ None
      by_now None shows = refl
      by_now (Some current) shows = absurd shows

  -- nobody is marked: a marked session would have an open transaction
  unmarked : state.mark ≡ None
  unmarked = nobody_marked state number free (λ e.
      let one = at.shown.kept.ranks.marked number e in
      absurd (let f : None ≡ Some one.0 = sym rests_in_machine ∙ one.1.0 in cc))

  known : Beginning setting state core sessions number session
  known = record {
    found = at.found;
    within = rests_there setting state core sessions number session at.shown.kept.fits at.shown.shows.sessions_show at.found;
    rests = at.rests;
    rests_there = rests_in_machine;
    unmarked = unmarked;
    core_shows = at.shown.shows.core_shows;
  }

  pub shows_after : Shows setting (begun_state setting state number) (slice_set parts (core_number setting) (CorePart (core_begun core)))
      (sessions_on sessions number session (beginning core))
  shows_after = record {
    core = core_begun core;
    parts_are = parts_after setting parts core (core_begun core) at.shown.shows.parts_are;
    core_shows = core_begun_shows setting state core sessions number session known;
    sessions_show = sessions_begun_show setting state core sessions number session known at.shown.kept.fits at.shown.kept.starts
        at.shown.shows.sessions_show;
    places_show = λ table chunk index part place of e.
        place_begun_shows setting state core sessions number session known at.shown.below_ids at.shown.labels at.label one_id
        (λ other another found. (at.shown.shows.sessions_show.each other another found).session_is.number_is)
        table chunk (chunk * setting.rows + index) place
        (at.shown.shows.places_show table chunk index part place (chunk_before setting parts core (core_begun core) table chunk part of) e);
  }

pub begins_are : OneId → BeginsAreTaken
begins_are one_id setting state parts sessions number session progress after new at free takes =
    core_taken setting state parts sessions number Begins (went_on session (beginning at.shown.shows.core)) (core_begun at.shown.shows.core)
    (shows_after setting state parts sessions number session one_id at free) progress after new takes.0 takes.1
