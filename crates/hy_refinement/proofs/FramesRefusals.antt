-- A transaction that is refused stands as before, and will be undone.
use Rattle.std.proofs.Common.{◌≡◌, ℕ, ◌+◌, ◌*◌, List, [], refl, sym, subst, ◌∙◌}
use Rattle.hy_journal.specs.declared.CoreData.{CoreData}
use Rattle.hy_event.specs.declared.Open.{Open}
use Rattle.hy_protocol.specs.declared.Phase.TheVariants as phase
use Rattle.hy_event.specs.Events.{Part}
use Rattle.hy_event.specs.Turns.{after_visit as visited_by}
use Rattle.hy_bound.specs.declared.Ending.{Ending}
use Rattle.hy_machine.specs.declared.Setting.{Setting}
use Rattle.hy_machine.specs.States.{State, Open as MachineOpen}
use Rattle.hy_machine.specs.Steps.{after_visit}
use Rattle.hy_refinement.specs.Sessions.{OpenShows}
use Rattle.hy_refinement.specs.Shows.{Shows}
use Rattle.hy_refinement.specs.CoreVisits.{RefusalsAreTaken}
use Rattle.hy_refinement.specs.Frames.{gone_on, sessions_on, KeepsStart, WentOn, OwnStepsShow, GoingOnIsTaken}
use Rattle.hy_refinement.proofs.RivalTops.{open_shown}
use Rattle.hy_refinement.proofs.FramesLists.{set_same}
use Rattle.hy_refinement.proofs.FramesStill.{IsStill, stands_still, works}

-- a transaction that is to be undone
abbrev pub refused_here : Ending → Open → Open
refused_here cause now = visited_by [] (phase.Undoing 0 cause) now

abbrev pub refused_there : Ending → MachineOpen → MachineOpen
refused_there cause current = after_visit [] (phase.Undoing 0 cause) current

pub refused_keeps : (cause : Ending) (now : Open) (current : MachineOpen) → KeepsStart now (refused_here cause now) current (refused_there cause current)
refused_keeps cause now current = record { start = refl; prefix = refl; cover = refl; prefix_there = refl; low_there = refl }

pub refused_goes : (setting : Setting) (state : State) (core : CoreData) (number : ℕ) (cause : Ending) (now : Open) (current : MachineOpen)
    → OpenShows setting state core number now current
    → WentOn setting state core number (refused_here cause now) (refused_there cause current)
refused_goes setting state core number cause now current was = record {
  open_shows = record {
    prefix = was.open_shows.prefix;
    replies = was.open_shows.replies;
    records = was.open_shows.records;
    took = was.open_shows.took;
    phase = refl;
  };
  notes_show = λ unmarked. let show = was.notes_show unmarked in record { all = show.all; saved = show.saved };
  gathered_shows = λ visited count e. absurd cc;
  stamping = λ visited e. absurd cc;
}

pub refused_still : (setting : Setting) (state : State) (core : CoreData) (number : ℕ) (cause : Ending) (now : Open) (current : MachineOpen) (visited count : ℕ)
    → OpenShows setting state core number now current → now.phase ≡ phase.Working visited count → IsStill current (refused_there cause current)
refused_still setting state core number cause now current visited count was is =
    let at_work = works visited count current.phase (sym was.open_shows.phase ∙ is) in
    record { own = refl; prefix = refl; undone_same = sym at_work.0; stamped_same = sym at_work.1 }

pub refusals : OwnStepsShow → GoingOnIsTaken → RefusalsAreTaken
refusals own going setting state parts sessions number session now current visited count cause part present progress after at phase_is there takes =
    let shows = at.shown.shows in
    let was = open_shown setting state shows.core sessions number session now current shows.sessions_show at.is_open in
    let still = refused_still setting state shows.core number cause now current visited count was phase_is in
    going.visits setting state parts sessions number session now current [] (phase.Undoing 0 cause) [] (phase.Undoing 0 cause)
    part progress after present at.is_open takes
    (subst (λ (others : List Part).
    Shows setting (gone_on state number (refused_there cause current)) others (sessions_on sessions number session (refused_here cause now)))
    (sym (set_same parts part present there))
    (own setting state parts sessions number session now (refused_here cause now) current (refused_there cause current) at
    (refused_keeps cause now current) (refused_goes setting state shows.core number cause now current was)
    (λ table chunk index below. stands_still setting state number table chunk (chunk * setting.rows + index) current (refused_there cause current)
    at.is_open.open_there still)))
