-- The end of a transaction whose chunks are stamped is the machine's.
use Rattle.std.proofs.Common.{◌≡◌, ℕ, ◌+◌, ◌-◌, ◌*◌, ◌<◌, ◌≤◌, List, length, drop, Some, Bool, true, false, cond, not, is_some}
use Rattle.std.proofs.Common.{sym, ap, ◌∙◌, arith, inl, inr}
use Rattle.std.specs.Prelude.{slice_get, slice_set}
use Rattle.std.proofs.lemmas.Bool.{cases_Bool, and_parts}
use Rattle.std.proofs.lemmas.List.{take_all}
use Rattle.std.proofs.lemmas.Nat.{div-mul-add}
use Rattle.std.proofs.lemmas.Option.{same_Some, slice_get_within}
use Rattle.hy_bound.specs.declared.Ending.{Ending}
use Rattle.hy_bound.specs.declared.Ending.TheVariants.{Committed}
use Rattle.hy_stamp.specs.Times.{id_of}
use Rattle.hy_chain.specs.Chains.{newest}
use Rattle.hy_undo.specs.Places.{Place}
use Rattle.hy_undo.specs.Chunks.{is_own}
use Rattle.hy_journal.specs.declared.CoreData.{CoreData}
use Rattle.hy_journal.specs.Core.{core_left, core_closed}
use Rattle.hy_event.specs.declared.SessionData.{SessionData}
use Rattle.hy_event.specs.declared.Open.{Open}
use Rattle.hy_protocol.specs.declared.Phase.{Phase}
use Rattle.hy_protocol.specs.declared.Phase.TheVariants as phase
use Rattle.hy_protocol.specs.declared.Progress.{Progress}
use Rattle.hy_event.specs.Sessions.{label_of as label_here, written_in, written}
use Rattle.hy_event.specs.Turns.{with_ended as ended_here}
use Rattle.hy_event.specs.CoreTurns.{TakesAtCore, ended_by}
use Rattle.hy_event.specs.Events.{Part, CorePart}
use Rattle.hy_machine.specs.declared.Setting.{Setting}
use Rattle.hy_machine.specs.States.{State, Open as MachineOpen}
use Rattle.hy_machine.specs.Tables.{Entry, chunk_of}
use Rattle.hy_protocol.specs.Turns.{Ends, is_stamping}
use Rattle.hy_machine.specs.Positions.{item_at}
use Rattle.hy_machine.specs.Writes.{written_chunks, is_among, written as written_there}
use Rattle.hy_machine.specs.Sessions.{snapshot}
use Rattle.hy_machine.specs.Holding.{holds, has_pair, undone}
use Rattle.hy_refinement.specs.Stamped.{HasNotStamped, is_unstamped, entries_counted}
use Rattle.hy_refinement.specs.Numbers.{StampingShows}
use Rattle.hy_refinement.specs.Sessions.{OpenShows}
use Rattle.hy_refinement.specs.Rivals.{ShownAt}
use Rattle.hy_refinement.specs.Shows.{Shows}
use Rattle.hy_refinement.specs.Frames.{VisitedChunksShow}
use Rattle.hy_refinement.specs.Taken.{AtOpen, IsTaken, core_number}
use Rattle.hy_refinement.specs.CoreVisits.{LeavesAreTaken}
use Rattle.hy_machine.specs.WrittenPlaces.{own_among}
use Rattle.hy_refinement.proofs.LastCells.{any_true}
use Rattle.hy_refinement.proofs.RivalTops.{open_shown}
use Rattle.hy_refinement.proofs.Rivals.{LastEntry, last_entry, pair_there, own_there}
use Rattle.hy_refinement.proofs.StampedStages.{unstamped_is}
use Rattle.hy_refinement.proofs.EndedOpens.{ended, sessions_ended}
use Rattle.hy_refinement.proofs.EndedPlaces.{LeavesNothing}
use Rattle.hy_refinement.proofs.Endings.{ended_shown}
use Rattle.hy_refinement.proofs.CoreTaken.{core_taken}

module _ (setting : Setting) (state : State) (parts : List Part) (sessions : List SessionData) (number : ℕ) (session : SessionData)
    (now : Open) (current : MachineOpen) (visited : ℕ) (at : AtOpen setting state parts sessions number session now current)
    (phase_is : now.phase ≡ phase.Stamping visited) (all_visited : length (written_chunks setting current.begun.own) ≤ visited) where
  abbrev core : CoreData
  core = at.shown.shows.core

  abbrev time : ℕ
  time = now.time

  opened : OpenShows setting state core number now current
  opened = open_shown setting state core sessions number session now current at.shown.shows.sessions_show at.is_open

  stage_is : current.phase ≡ phase.Stamping visited
  stage_is = sym opened.open_shows.phase ∙ phase_is

  mark : state.mark ≡ Some number
  mark = at.shown.kept.ranks.stamping number current at.is_open.open_there (ap is_stamping stage_is)

  its_time : StampingShows core now current
  its_time = at.shown.shows.core_shows.mark_shows.stamping number session now current at.is_open visited phase_is

  wrote_is : written now ≡ written_there current.begun.own
  wrote_is = ap (written_in now) phase_is ∙ its_time.wrote

  last : LastEntry setting state number current
  last = last_entry setting state number current at.shown.kept mark at.is_open.open_there

  -- ---- a position

  module _ (table chunk index : ℕ) (below : index < setting.rows) (place : Place)
      (shown : ShownAt setting state core sessions table chunk (chunk * setting.rows + index) place) where
    abbrev pos : ℕ
    pos = chunk * setting.rows + index

    -- in a chunk that is not stamped it wrote nothing
    stamped_all : is_unstamped setting state table chunk ≡ true → is_some (item_at current.begun.own table pos) ≡ true → ⊥
    stamped_all un own =
        let among : is_among (written_chunks setting current.begun.own) table chunk ≡ true =
        ap (is_among (written_chunks setting current.begun.own) table) (sym (div-mul-add chunk setting.rows index below))
        ∙ own_among setting current.begun.own table pos (at.shown.kept.fits.opens number current at.is_open.open_there).own own in
        let stamped : is_unstamped setting state table chunk ≡ false =
        unstamped_is setting state number visited table chunk current mark at.is_open.open_there stage_is
        ∙ (ap (λ (chunks : List (ℕ × ℕ)). not (is_among chunks table chunk)) (take_all visited (written_chunks setting current.begun.own) all_visited)
        ∙ ap not among) in
        absurd (let e = sym un ∙ stamped in cc)

    own_cell : holds setting table pos (Some current) ≡ true → is_some (item_at current.begun.own table pos) ≡ true
    own_cell held =
        (and_parts (is_some (item_at current.begun.own table pos))
        (is_among (drop (undone current.phase) (written_chunks setting current.begun.own)) table (chunk_of setting pos)) held).0

    quiet_since : (rank : ℕ) (entry : Entry) → entries_counted setting state table chunk ≤ rank → slice_get state.order rank ≡ Some entry
        → has_pair table pos entry ≡ false
    quiet_since rank entry more e =
        let within = slice_get_within state.order rank entry e in
        elim (cases_Bool (is_unstamped setting state table chunk)) [
          | inr st ↦ absurd (let all = ap (λ (b : Bool). cond b (length state.order - 1) (length state.order)) st in omega (arith, all, more, within))
          | inl un ↦ elim (cases_Bool (has_pair table pos entry)) [
            | inr quiet ↦ quiet
            | inl wrote ↦
                let counted = ap (λ (b : Bool). cond b (length state.order - 1) (length state.order)) un in
                let is_last : rank ≡ length state.order - 1 = omega (arith, more, within, counted) in
                let same : last.entry ≡ entry = same_Some last.entry entry (sym last.stands ∙ (ap (slice_get state.order) (sym is_last) ∙ e)) in
                absurd (stamped_all un
                (own_there (item_at (snapshot setting state (length state.order - 1)) table pos) (item_at current.begun.own table pos)
                (sym (ap is_some (last.cells table pos)) ∙ (ap (has_pair table pos) same ∙ wrote))))
          ]
        ]

    not_own : HasNotStamped setting state number table chunk → is_own (id_of (label_here session)) (newest place.chain) ≡ false
    not_own (inl unlike) = absurd (unlike mark)
    not_own (inr un) = elim (cases_Bool (is_own (id_of (label_here session)) (newest place.chain))) [
      | inr other ↦ other
      | inl own ↦
          absurd (stamped_all un (own_cell
          (sym (shown.place_shows.own_heads number session now current at.is_open (inr un)).holds_it ∙ own)))
    ]

    leaves_nothing : LeavesNothing setting state table chunk pos place number session current
    leaves_nothing = record {
      quiet = quiet_since;
      not_own = not_own;
      wrote = λ held. any_true (has_pair table pos) state.order (length state.order - 1) last.entry last.stands
          (ap is_some (last.cells table pos)
          ∙ pair_there (item_at (snapshot setting state (length state.order - 1)) table pos) (item_at current.begun.own table pos) (own_cell held));
    }

  -- ---- the end

  module _ (visited_show : VisitedChunksShow) where
    abbrev ending : Ending
    ending = Committed (length state.order - 1)

    shows_after : Shows setting (ended state number ending) (slice_set parts (core_number setting) (CorePart (core_left core now.start)))
        (sessions_ended sessions number session ending)
    shows_after = ended_shown setting state parts sessions number session now current ending at
        (λ other apart e. apart (same_Some other number (sym e ∙ mark))) wrote_is
        (λ table chunk index part place of e shown.
        let is = (visited_show setting state parts sessions number session now current table chunk part (record { at_open = at; is_part = of })).0 in
        let within = slice_get_within part.places index place e in
        let long = is.places in
        leaves_nothing table chunk index (omega (arith, within, long)) place shown)

    left_taken : (progress : Progress) (after : SessionData) (new : CoreData) → TakesAtCore session core (Some (Ends ending)) progress after new
        → IsTaken setting state parts sessions number (Ends ending) (core_number setting) progress after (CorePart new)
    left_taken progress after new takes =
        core_taken setting state parts sessions number (Ends ending) (ended_here ending session) (core_left core now.start) shows_after
        progress after new takes.0
        (takes.1 ∙ (ap (ended_by core) at.is_open.open_here
        ∙ ap (λ (stands : Phase). cond (is_stamping stands) (core_left core now.start) (core_closed core now.start)) phase_is))

pub leaves_are : VisitedChunksShow → LeavesAreTaken
leaves_are visited_show setting state parts sessions number session now current visited progress after new at phase_is all_visited takes =
    left_taken setting state parts sessions number session now current visited at phase_is all_visited visited_show progress after new takes
