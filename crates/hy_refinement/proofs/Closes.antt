-- The end of a transaction that has no entry is the machine's.
use Rattle.std.proofs.Common.{◌≡◌, ◌≢◌, ℕ, ◌+◌, ◌-◌, ◌*◌, List, length, map, Option, None, Some}
use Rattle.std.proofs.Common.{Bool, true, false, refl, sym, ap, ◌∙◌, arith, cond, inl, inr}
use Rattle.std.specs.Prelude.{slice_set}
use Rattle.std.specs.Option.{option_map}
use Rattle.std.proofs.lemmas.Bool.{cases_eq, ne_eqb}
use Rattle.std.proofs.lemmas.Option.{slice_get_within}
use Rattle.hy_journal.specs.declared.CoreData.{CoreData}
use Rattle.hy_stamp.specs.declared.Label.{Label}
use Rattle.hy_prune.specs.OpenStarts.{without}
use Rattle.hy_journal.specs.Core.{core_closed, core_left}
use Rattle.hy_event.specs.declared.SessionData.{SessionData}
use Rattle.hy_event.specs.declared.Open.{Open}
use Rattle.hy_protocol.specs.declared.Phase.{Phase}
use Rattle.hy_protocol.specs.declared.Phase.TheVariants as phase
use Rattle.hy_event.specs.Sessions.{place_noted, written_in, written}
use Rattle.hy_event.specs.Turns.{with_ended as ended_here}
use Rattle.hy_event.specs.CoreTurns.{ended_by}
use Rattle.hy_event.specs.Events.{Part, CorePart}
use Rattle.hy_machine.specs.declared.Setting.{Setting}
use Rattle.hy_machine.specs.States.{State, Open as MachineOpen}
use Rattle.hy_protocol.specs.Turns.{Ends, is_stamping}
use Rattle.hy_machine.specs.Writes.{written as written_there}
use Rattle.hy_machine.specs.Sessions.{session_at, label_of, blocker_of}
use Rattle.hy_refinement.specs.Sessions.{OpenShows}
use Rattle.hy_refinement.specs.Shows.{Shows}
use Rattle.hy_refinement.specs.Stamped.{is_unstamped, is_unstamped_by, entries_counted}
use Rattle.hy_refinement.specs.Taken.{AtOpen, core_number}
use Rattle.hy_refinement.specs.CoreVisits.{IsFreeToGo, ClosesAreTaken}
use Rattle.hy_refinement.proofs.RivalTops.{open_shown}
use Rattle.hy_refinement.proofs.NotedPlaces.{not_marked, places_are, written_places}
use Rattle.hy_refinement.proofs.SamePlaces.{InOrder, same_places, notes_in_order, written_in_order}
use Rattle.hy_refinement.proofs.EndedOpens.{ended, sessions_ended}
use Rattle.hy_refinement.proofs.Endings.{ended_shown}
use Rattle.hy_refinement.proofs.CoreTaken.{core_taken}

-- ---- what it wrote

-- until its entry has them it has noted the places that the machine's has written, in that order
pub wrote_is : (setting : Setting) (state : State) (parts : List Part) (sessions : List SessionData) (number : ℕ) (session : SessionData)
    (now : Open) (current : MachineOpen)
    → AtOpen setting state parts sessions number session now current → is_stamping current.phase ≡ false
    → written now ≡ written_there current.begun.own
wrote_is setting state parts sessions number session now current at quiet =
    same_places (written now) (written_there current.begun.own) (by now.phase (sym open_is.open_shows.phase))
    (written_in_order current.begun.own) (λ table pos.
    places_are setting state parts sessions number session now current at table pos ∙ sym (written_places current.begun.own table pos))
  where
    open_is : OpenShows setting state at.shown.shows.core number now current
    open_is = open_shown setting state at.shown.shows.core sessions number session now current at.shown.shows.sessions_show at.is_open

    noted : InOrder (map place_noted now.notes)
    noted = notes_in_order now.notes (open_is.notes_show (not_marked setting state number current at.shown.kept at.is_open.open_there quiet)).all.ascends

    by : (stands : Phase) → current.phase ≡ stands → InOrder (written_in now stands)
    by (phase.Working visited count) there = noted
    by (phase.Undoing visited ending) there = noted
    by (phase.Stamping visited) there = absurd (let e : true ≡ false = sym (ap is_stamping there) ∙ quiet in cc)

-- ---- the end

-- nobody is marked where nobody blocks a transaction that isn't marked
pub nobody_marked : (state : State) (number : ℕ) → IsFreeToGo state number → state.mark ≢ Some number → state.mark ≡ None
nobody_marked state number free other = by state.mark refl free
  where
    by : (mark : Option ℕ) → state.mark ≡ mark → blocker_of state number mark ≡ None → state.mark ≡ None
    by None is none = is
    by (Some marked) is none = elim (cases_eq marked number) [
      | inl same ↦ absurd (other (is ∙ ap (λ (n : ℕ). Some n) same))
      | inr apart ↦
          let e : blocker_of state number (Some marked) ≡ Some (label_of marked (session_at state marked)) =
          ap (λ (b : Bool). cond b None (Some (label_of marked (session_at state marked)))) (ne_eqb marked number apart) in
          absurd (let f = sym none ∙ e in cc)
    ]

-- a core where nobody is marked is left as it is closed
unmarked_left : (core : CoreData) (now : Open) (b : Bool) → core.mark ≡ None → cond b (core_left core now.start) (core_closed core now.start) ≡ core_left core now.start
unmarked_left core now true none = refl
unmarked_left core now false none =
    ap (λ (mark : Option Label). record { next = core.next; active = without now.start core.active; entries = core.entries; mark = mark }) none

pub closes_are : ClosesAreTaken
closes_are setting state parts sessions number session now current ending progress after new at free quiet holds_nothing takes =
    core_taken setting state parts sessions number (Ends ending) (ended_here ending session) (core_left at.shown.shows.core now.start)
    shows_after progress after new takes.0
    (takes.1 ∙ (ap (ended_by at.shown.shows.core) at.is_open.open_here ∙ unmarked_left at.shown.shows.core now (is_stamping now.phase) core_unmarked))
  where
    unmarked : state.mark ≡ None
    unmarked = nobody_marked state number free (not_marked setting state number current at.shown.kept at.is_open.open_there quiet)

    core_unmarked : at.shown.shows.core.mark ≡ None
    core_unmarked =
        at.shown.shows.core_shows.mark_shows.mark
        ∙ ap (λ (mark : Option ℕ). option_map (λ (marked : ℕ). label_of marked (session_at state marked)) mark) unmarked

    all_count : (table chunk : ℕ) → entries_counted setting state table chunk ≡ length state.order
    all_count table chunk = ap (λ (b : Bool). cond b (length state.order - 1) (length state.order))
        (let e : is_unstamped setting state table chunk ≡ false = ap (λ (mark : Option ℕ). is_unstamped_by setting state mark table chunk) unmarked in e)

    shows_after : Shows setting (ended state number ending)
        (slice_set parts (core_number setting) (CorePart (core_left at.shown.shows.core now.start))) (sessions_ended sessions number session ending)
    shows_after = ended_shown setting state parts sessions number session now current ending at
        (λ other apart e. absurd (let f : None ≡ Some other = sym unmarked ∙ e in cc))
        (wrote_is setting state parts sessions number session now current at quiet)
        (λ table chunk index part place of e shown. record {
          quiet = λ rank entry more stands. absurd (
              let within = slice_get_within state.order rank entry stands in let all = all_count table chunk in omega (arith, more, within, all));
          not_own = λ h.
              (shown.place_shows.own_heads number session now current at.is_open h).holds_it ∙ holds_nothing table (chunk * setting.rows + index);
          wrote = λ held. absurd (let f = sym held ∙ holds_nothing table (chunk * setting.rows + index) in cc);
        })
