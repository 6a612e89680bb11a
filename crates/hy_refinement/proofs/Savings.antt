-- A statement that opens or closes savepoints is answered: the savepoints are those after it.
use Rattle.std.proofs.Common.{◌≡◌, ℕ, ◌+◌, ◌*◌, List, [], ◌∷◌, ◌++◌, length, map, Option, None, refl, sym, ap, ◌∙◌, subst}
use Rattle.std.specs.Prelude.{slice_set}
use Rattle.std.specs.Option.{option_map}
use Rattle.hy_value.specs.declared.change.Change.{Change}
use Rattle.hy_bound.specs.declared.Bound.{Bound}
use Rattle.hy_bound.specs.declared.Record.{Record}
use Rattle.hy_bound.specs.declared.Reply.{Reply}
use Rattle.hy_bound.specs.Savepoints.{Saved, saved_after}
use Rattle.hy_bound.specs.SavedRelations.{AreAlike, saved_after_alike}
use Rattle.hy_journal.specs.declared.CoreData.{CoreData}
use Rattle.hy_event.specs.declared.Open.{Open}
use Rattle.hy_event.specs.Sessions.{savepoint_of}
use Rattle.hy_event.specs.Events.{Part, CorePart}
use Rattle.hy_event.specs.Turns.{Step, saved_of, after_saving as saving_here}
use Rattle.hy_protocol.specs.declared.Phase.TheVariants as phase
use Rattle.hy_protocol.specs.declared.Progress.TheVariants as came_to
use Rattle.hy_protocol.specs.Turns.{Saves}
use Rattle.hy_machine.specs.declared.Setting.{Setting}
use Rattle.hy_machine.specs.States.{State, Open as MachineOpen}
use Rattle.hy_machine.specs.Steps.{after_saving, with_session}
use Rattle.hy_machine.specs.Tables.{Tables}
use Rattle.hy_machine.specs.Sessions.{session_at, snapshot, txn_at, view}
use Rattle.hy_refinement.specs.Sessions.{SinceHave, GatheredBy, OpenShows, statement_at}
use Rattle.hy_refinement.specs.Gathered.{gathered_first}
use Rattle.hy_refinement.specs.Shows.{Shows}
use Rattle.hy_refinement.specs.Taken.{core_number}
use Rattle.hy_refinement.specs.CoreVisits.{SavesAreTaken}
use Rattle.hy_refinement.specs.Frames.{gone_on, went_on, sessions_on, WentOn, OwnStepsShow}
use Rattle.hy_refinement.proofs.RivalTops.{open_shown}
use Rattle.hy_refinement.proofs.CoreTaken.{core_taken}
use Rattle.hy_refinement.proofs.FramesLists.{set_same}
use Rattle.hy_refinement.proofs.FramesStill.{IsStill, stands_still, works}
use Rattle.hy_refinement.proofs.Since.{fresh_since}

-- what is kept of savepoints as others tell it is what they keep
same_saved : (saved : List (Saved (List Change))) → saved ≡ map savepoint_of (map saved_of saved)
same_saved [] = refl
same_saved (one ∷ saved) = ap (λ (others : List (Saved (List Change))). one ∷ others) (same_saved saved)

saving_goes : (setting : Setting) (state : State) (core : CoreData) (number : ℕ) (statement : Bound) (reply : Reply) (now : Open) (current : MachineOpen)
    → OpenShows setting state core number now current
    → WentOn setting state core number (saving_here statement reply now) (after_saving statement reply current)
saving_goes setting state core number statement reply now current was = record {
  open_shows = record {
    prefix = was.open_shows.prefix;
    replies = ap (λ (replies : List Reply). replies ++ reply ∷ []) was.open_shows.replies;
    records = ap (λ (all : List Record). all ++ []) was.open_shows.records;
    took = ap (λ (took : List (Option ℕ)). took ++ None ∷ []) was.open_shows.took;
    phase = refl;
  };
  notes_show = λ unmarked. let show = was.notes_show unmarked in record {
    all = show.all;
    saved = subst (λ (saved : List (Saved (List Change))). AreAlike (SinceHave setting start current.begun.trail) saved
        (saved_after statement current.begun.saved (length current.begun.trail)))
        (same_saved (saved_after statement (map savepoint_of now.saved) []))
        (saved_after_alike (SinceHave setting start current.begun.trail) statement (map savepoint_of now.saved) current.begun.saved []
        (length current.begun.trail) show.saved (fresh_since setting start current.begun.trail));
  };
  gathered_shows = λ visits counts e.
      let none : 0 ≡ visits = cc in
      subst (λ (n : ℕ). GatheredBy setting (view setting state (after_saving statement reply current).begun) n []
      (statement_at (txn_at setting number (session_at state number)) (length (saving_here statement reply now).replies))) none
      (gathered_first setting (view setting state (after_saving statement reply current).begun)
      (statement_at (txn_at setting number (session_at state number)) (length (saving_here statement reply now).replies)));
  stamping = λ visits e. absurd cc;
}
  where
    start : Tables
    start = snapshot setting state current.begun.prefix

saving_still : (setting : Setting) (state : State) (core : CoreData) (number : ℕ) (statement : Bound) (reply : Reply) (now : Open) (current : MachineOpen)
    (visited count : ℕ)
    → OpenShows setting state core number now current → now.phase ≡ phase.Working visited count → IsStill current (after_saving statement reply current)
saving_still setting state core number statement reply now current visited count was is =
    let at_work = works visited count current.phase (sym was.open_shows.phase ∙ is) in
    record { own = refl; prefix = refl; undone_same = sym at_work.0; stamped_same = sym at_work.1 }

pub saves_are : OwnStepsShow → SavesAreTaken
saves_are own setting state parts sessions number session now current visited count statement reply progress after new at stands takes =
    let shows = at.shown.shows in
    let then : Open = saving_here statement reply now in
    let later : MachineOpen = after_saving statement reply current in
    let was = open_shown setting state shows.core sessions number session now current shows.sessions_show at.is_open in
    let still = saving_still setting state shows.core number statement reply now current visited count was stands.phase_is in
    let left : Option Open → Step = λ (o : Option Open). (record session { now = option_map (saving_here statement reply) o }, came_to.Answered) in
    let there : Option MachineOpen → State = λ (o : Option MachineOpen).
    with_session state number (record { done = (session_at state number).done; now = option_map (after_saving statement reply) o }) in
    core_taken setting state parts sessions number (Saves statement reply) (went_on session then) shows.core
    (subst (λ (s : State). Shows setting s (slice_set parts (core_number setting) (CorePart shows.core)) (sessions_on sessions number session then))
    (ap there (sym at.is_open.open_there))
    (subst (λ (others : List Part). Shows setting (gone_on state number later) others (sessions_on sessions number session then))
    (sym (set_same parts (core_number setting) (CorePart shows.core) shows.parts_are.core_last))
    (own setting state parts sessions number session now then current later at
    (record { start = refl; prefix = refl; cover = refl; prefix_there = refl; low_there = refl })
    (saving_goes setting state shows.core number statement reply now current was)
    (λ table chunk index below. stands_still setting state number table chunk (chunk * setting.rows + index) current later at.is_open.open_there still))))
    progress after new (takes.0 ∙ ap left at.is_open.open_here) takes.1
