-- A visit that stamps a chunk is the machine's turn.
use Rattle.std.proofs.Common.{◌≡◌, ℕ, suc, ◌+◌, ◌-◌, ◌*◌, ◌<◌, ◌≤◌, List, [], length, take, drop, Some, Bool, true, false, cond, not, is_some}
use Rattle.std.proofs.Common.{refl, sym, ap, ◌∙◌, subst, arith, inl, inr}
use Rattle.std.specs.Prelude.{slice_get, ◌||◌, ◌&&◌}
use Rattle.std.specs.List.{list_any}
use Rattle.std.proofs.lemmas.Bool.{cases_Bool, cases_eq, eq-eqb}
use Rattle.std.proofs.lemmas.Option.{same_Some, slice_get_within}
use Rattle.hy_stamp.specs.declared.Stamp.{Stamp}
use Rattle.hy_stamp.specs.declared.Viewer.{Viewer}
use Rattle.hy_stamp.specs.Times.{id_of}
use Rattle.hy_chain.specs.Chains.{newest}
use Rattle.hy_undo.specs.Places.{Place}
use Rattle.hy_undo.specs.Chunks.{ChunkData, StampedPlace, AtOwn, Everywhere, is_own}
use Rattle.hy_journal.specs.declared.CoreData.{CoreData}
use Rattle.hy_event.specs.declared.SessionData.{SessionData}
use Rattle.hy_event.specs.declared.Open.{Open}
use Rattle.hy_protocol.specs.declared.Phase.TheVariants as phase
use Rattle.hy_protocol.specs.declared.Progress.{Progress}
use Rattle.hy_event.specs.Sessions.{label_of as label_here}
use Rattle.hy_event.specs.Stamping.{StampVisit}
use Rattle.hy_event.specs.Events.{Part, ChunkPart}
use Rattle.hy_machine.specs.declared.Setting.{Setting}
use Rattle.hy_machine.specs.States.{State, Session, Open as MachineOpen}
use Rattle.hy_machine.specs.Tables.{Entry, opening_tables, chunk_of}
use Rattle.hy_protocol.specs.Turns.{Visits, is_stamping}
use Rattle.hy_machine.specs.Positions.{item_at}
use Rattle.hy_machine.specs.Writes.{written_chunks, is_among}
use Rattle.hy_machine.specs.Sessions.{session_at, snapshot, view}
use Rattle.hy_machine.specs.Holding.{holds, is_held, has_pair, undone}
use Rattle.hy_refinement.specs.Stamped.{is_unstamped, entries_counted}
use Rattle.hy_refinement.specs.Transactions.{IsOpen}
use Rattle.hy_refinement.specs.Numbers.{CoreShows, StampingShows}
use Rattle.hy_refinement.specs.Sessions.{OpenShows}
use Rattle.hy_refinement.specs.Places.{IsOwnStamp, is_used, cell_held, IsNewcomer, PlaceShows}
use Rattle.hy_refinement.specs.Parts.{ChunkIs}
use Rattle.hy_refinement.specs.Rivals.{ShownAt}
use Rattle.hy_refinement.specs.Frames.{gone_on, sessions_on, KeepsStart, WentOn, StandsElsewhere, ChunkShows}
use Rattle.hy_refinement.specs.Frames.{ChunkVisitsShow, PrunedChunksShow, VisitedChunksShow, GoingOnIsTaken}
use Rattle.hy_refinement.specs.Taken.{AtChunk, IsTaken, chunk_number}
use Rattle.hy_refinement.specs.Visits.{StampsAreTaken}
use Rattle.hy_refinement.proofs.Holders.{is_there}
use Rattle.hy_refinement.proofs.RivalTops.{open_shown}
use Rattle.hy_refinement.proofs.Rivals.{LastEntry, last_entry, marked_holds, own_there}
use Rattle.hy_refinement.proofs.FramesLists.{any_set}
use Rattle.hy_refinement.proofs.FramesOpened.{WasOpen, same as itself, stays as another, was_open, goes_there, opens_other}
use Rattle.hy_refinement.proofs.FramesCores.{core_stays}
use Rattle.hy_refinement.proofs.FramesTurns.{everywhere_length, everywhere_at, chunk_still}
use Rattle.hy_refinement.proofs.StillOpens.{open_after}
use Rattle.hy_machine.specs.OwnChunks.{written_apart, not_before, is_with_it, others_with_it}
use Rattle.hy_refinement.proofs.StampedStages.{unstamped_is}
use Rattle.hy_refinement.proofs.StampedPlaces.{stamped_shows}
use Rattle.hy_refinement.proofs.UnwrittenPlaces.{StoodSo, shows_still}
use Rattle.hy_refinement.proofs.ChunkPlaces.{has_position}

module _ (setting : Setting) (state : State) (parts : List Part) (sessions : List SessionData) (number : ℕ) (session : SessionData)
    (now : Open) (current : MachineOpen) (table chunk : ℕ) (old : ChunkData) (visited : ℕ) (progress : Progress) (gone : SessionData) (new : ChunkData)
    (at : AtChunk setting state parts sessions number session now current table chunk old)
    (phase_is : now.phase ≡ phase.Stamping visited)
    (turn_of : slice_get (written_chunks setting current.begun.own) visited ≡ Some (table, chunk))
    (visit : StampVisit session now visited old progress gone new) where
  abbrev then : Open
  then = record now { phase = phase.Stamping (suc visited) }

  abbrev later : MachineOpen
  later = record { begun = current.begun; phase = phase.Stamping (suc visited) }

  abbrev after : State
  after = gone_on state number later

  abbrev news : List SessionData
  news = sessions_on sessions number session then

  abbrev core : CoreData
  core = at.at_open.shown.shows.core

  abbrev time : ℕ
  time = now.time

  is : IsOpen state sessions number session now current
  is = at.at_open.is_open

  core_shows : CoreShows state core sessions
  core_shows = at.at_open.shown.shows.core_shows

  opened : OpenShows setting state core number now current
  opened = open_shown setting state core sessions number session now current at.at_open.shown.shows.sessions_show is

  stage_is : current.phase ≡ phase.Stamping visited
  stage_is = sym opened.open_shows.phase ∙ phase_is

  marks_time : is_stamping current.phase ≡ true
  marks_time = ap is_stamping stage_is

  mark : state.mark ≡ Some number
  mark = at.at_open.shown.kept.ranks.stamping number current is.open_there marks_time

  its_time : StampingShows core now current
  its_time = core_shows.mark_shows.stamping number session now current is visited phase_is

  has_noted : slice_get core.entries (length state.order - 1) ≡ Some its_time.entry
  has_noted = ap (λ (n : ℕ). slice_get core.entries (n - 1)) (sym core_shows.entries_show.count) ∙ its_time.last

  -- ---- what it went on to

  keeps : KeepsStart now then current later
  keeps = record { start = refl; prefix = refl; cover = refl; prefix_there = refl; low_there = refl }

  stamping_still : (done : ℕ) → then.phase ≡ phase.Stamping done → StampingShows core then later
  stamping_still done e = record {
    entry = its_time.entry;
    last = its_time.last;
    time_is = its_time.time_is;
    wrote = its_time.wrote;
  }

  went : WentOn setting state core number then later
  went = record {
    open_shows = record {
      prefix = opened.open_shows.prefix;
      replies = opened.open_shows.replies;
      records = opened.open_shows.records;
      took = opened.open_shows.took;
      phase = refl;
    };
    notes_show = λ unlike. absurd (unlike mark);
    gathered_shows = λ done count e. absurd cc;
    stamping = stamping_still;
  }

  core_then : CoreShows after core news
  core_then = core_stays state core sessions number session now then current later is keeps core_shows setting went

  holds_same : (other pos : ℕ) → holds setting other pos (Some later) ≡ holds setting other pos (Some current)
  holds_same other pos =
      ap (λ (n : ℕ). is_some (item_at current.begun.own other pos)
      && is_among (drop n (written_chunks setting current.begun.own)) other (chunk_of setting pos)) (sym (ap undone stage_is))

  cell_same : (other pos : ℕ) → cell_held setting state other pos later ≡ cell_held setting state other pos current
  cell_same other pos =
      ap (λ (b : Bool). cond b (item_at (view setting state current.begun) other pos) (item_at (snapshot setting state current.begun.prefix) other pos))
      (holds_same other pos)

  unstamped_before : (other different : ℕ)
      → is_unstamped setting state other different ≡ not (is_among (take visited (written_chunks setting current.begun.own)) other different)
  unstamped_before other different = unstamped_is setting state number visited other different current mark is.open_there stage_is

  unstamped_after : (other different : ℕ)
      → is_unstamped setting after other different ≡ not (is_among (take (suc visited) (written_chunks setting current.begun.own)) other different)
  unstamped_after other different = unstamped_is setting after number (suc visited) other different later mark
      (ap (λ (one : Session). one.now) (goes_there state number current later is.open_there)) refl

  elsewhere : StandsElsewhere setting state number current later table chunk
  elsewhere other different index apart below = record {
    holds_it = holds_same other (different * setting.rows + index);
    cell = cell_same other (different * setting.rows + index);
    unstamped =
        unstamped_after other different
        ∙ (ap not (others_with_it (written_chunks setting current.begun.own) visited table chunk other different turn_of apart)
        ∙ sym (unstamped_before other different));
  }

  unstamped : is_unstamped setting state table chunk ≡ true
  unstamped =
      unstamped_before table chunk
      ∙ ap not (not_before (written_chunks setting current.begun.own) visited table chunk (written_apart setting current.begun.own) turn_of)

  is_stamped : is_unstamped setting after table chunk ≡ false
  is_stamped = unstamped_after table chunk ∙ ap not (is_with_it (written_chunks setting current.begun.own) visited table chunk turn_of)

  held_same : (pos : ℕ) → is_held setting after table pos ≡ is_held setting state table pos
  held_same pos = any_set (λ (one : Session). holds setting table pos one.now) state.sessions number (session_at state number)
      (record { done = (session_at state number).done; now = Some later }) (is_there state number current is.open_there)
      (holds_same table pos ∙ sym (ap (holds setting table pos) is.open_there))

  used_same : (pos : ℕ) → is_used setting after table pos ≡ is_used setting state table pos
  used_same pos =
      ap (λ (b : Bool). is_some (item_at (opening_tables setting) table pos) || (list_any (has_pair table pos) state.order || b)) (held_same pos)

  -- ---- a position

  module _ (pos : ℕ) (place : Place) (shows : PlaceShows setting state core sessions table chunk pos place) where
    shown : ShownAt setting state core sessions table chunk pos place
    shown = record {
      kept = at.at_open.shown.kept;
      below_ids = at.at_open.shown.below_ids;
      core_shows = core_shows;
      sessions_show = at.at_open.shown.shows.sessions_show;
      place_shows = shows;
    }

    last : LastEntry setting state number current
    last = last_entry setting state number current at.at_open.shown.kept mark is.open_there

    -- where its record isn't the newest it did not write
    module _ (not_own : is_own (id_of (label_here session)) (newest place.chain) ≡ false) where
      not_held : holds setting table pos (Some current) ≡ false
      not_held = sym (shows.own_heads number session now current is (inr unstamped)).holds_it ∙ not_own

      not_wrote : has_pair table pos last.entry ≡ false
      not_wrote = elim (cases_Bool (has_pair table pos last.entry)) [
        | inr quiet ↦ quiet
        | inl wrote ↦
            let own : is_some (item_at current.begun.own table pos) ≡ true =
            own_there (item_at (snapshot setting state (length state.order - 1)) table pos) (item_at current.begun.own table pos)
            (sym (ap is_some (last.cells table pos)) ∙ wrote) in
            absurd (let e = sym (marked_holds setting state number current table pos at.at_open.shown.kept is.open_there marks_time own) ∙ not_held in cc)
      ]

      counted : entries_counted setting state table chunk ≡ length state.order - 1
      counted = ap (λ (b : Bool). cond b (length state.order - 1) (length state.order)) unstamped

      quiet_since : (rank : ℕ) (entry : Entry) → entries_counted setting state table chunk ≤ rank → slice_get state.order rank ≡ Some entry
          → has_pair table pos entry ≡ false
      quiet_since rank entry more e =
          let within = slice_get_within state.order rank entry e in
          let is_last : rank ≡ length state.order - 1 = omega (arith, more, within, counted) in
          let same : entry ≡ last.entry = same_Some entry last.entry (sym e ∙ (ap (slice_get state.order) is_last ∙ last.stands)) in
          ap (has_pair table pos) same ∙ not_wrote

      stood : (other : ℕ) (one : SessionData) (present : Open) (there : MachineOpen) → WasOpen state sessions number session then later other one present there
          → StoodSo setting state after sessions table chunk pos other one present there
      stood other one present there (another apart open') = record {
        was = one;
        then = present;
        there = there;
        is_open = open';
        label = refl;
        start = refl;
        not_stamped = λ h. inl (λ e. apart (same_Some other number (sym e ∙ mark)));
        holds_it = λ h. refl;
        cell = λ h. refl;
      }
      stood other one present there (itself same one_is present_is there_is) = record {
        was = session;
        then = now;
        there = current;
        is_open = subst (λ (n : ℕ). IsOpen state sessions n session now current) (sym same) is;
        label = ap label_here one_is;
        start = ap (λ (w : Open). w.start) present_is;
        not_stamped = λ h. inr unstamped;
        holds_it = λ h. ap (λ (c : MachineOpen). holds setting table pos (Some c)) there_is ∙ holds_same table pos;
        cell = λ h. ap (λ (c : MachineOpen). cell_held setting state table pos c) there_is ∙ cell_same table pos;
      }

      own_stays : (stamp : Stamp) → newest place.chain ≡ Some stamp → IsOwnStamp setting state sessions table chunk stamp
          → IsOwnStamp setting after news table chunk stamp
      own_stays stamp e own = elim (cases_eq own.number number) [
        | inr apart ↦ record {
          number = own.number;
          session = own.session;
          now = own.now;
          current = own.current;
          is_open = opens_other state sessions number session then later own.number own.session own.now own.current apart own.is_open;
          not_stamped = inl (λ f. apart (same_Some own.number number (sym f ∙ mark)));
          mark_is = own.mark_is;
        }
        | inl same ↦
            let one_is : own.session ≡ session = same_Some own.session session (sym own.is_open.found ∙ (ap (slice_get sessions) same ∙ is.found)) in
            absurd (let f : is_own (id_of (label_here session)) (newest place.chain) ≡ true =
            ap (is_own (id_of (label_here session))) e
            ∙ eq-eqb stamp.mark (id_of (label_here session)) (own.mark_is ∙ ap (λ (s : SessionData). id_of (label_here s)) one_is) in
            let g = sym f ∙ not_own in cc)
      ]

      newcomer_before : (viewer : Viewer) → IsNewcomer after core news viewer → IsNewcomer state core sessions viewer
      newcomer_before viewer new' = record {
        start = new'.start;
        id = new'.id;
        new = λ other one present there open' same.
            let had = open_after state sessions number session now then current later is refl other one present there open' in
            new'.new other had.one had.present had.there had.is_open (ap id_of had.label ∙ same);
      }

      unwritten_shows : PlaceShows setting after core news table chunk pos place
      unwritten_shows = shows_still setting state core sessions state.mark after.sessions core.active core.mark news table chunk pos place
          core_shows.entries_show shows (omega (arith, counted))
          (ap (λ (b : Bool). cond b (length state.order - 1) (length state.order)) is_stamped)
          quiet_since
          (λ other one present there open'. stood other one present there
          (was_open state sessions number session now then current later is other one present there open'))
          own_stays
          (λ viewer new'. shows.newcomer_sees viewer (newcomer_before viewer new'))
          (used_same pos)

  place_shows : (index : ℕ) (was place : Place) → index < setting.rows → PlaceShows setting state core sessions table chunk (chunk * setting.rows + index) was
      → AtOwn (id_of (label_here session)) (StampedPlace (id_of (label_here session)) time) was place
      → PlaceShows setting after core news table chunk (chunk * setting.rows + index) place
  place_shows index was place below shows change = elim (cases_Bool (is_own (id_of (label_here session)) (newest was.chain))) [
    | inr not_own ↦
        subst (λ (p : Place). PlaceShows setting after core news table chunk (chunk * setting.rows + index) p) (sym (change.others not_own))
        (unwritten_shows (chunk * setting.rows + index) was shows not_own)
    | inl own ↦
        stamped_shows setting state core sessions table chunk (chunk * setting.rows + index) was place
        (shown (chunk * setting.rows + index) was shows)
        (has_position setting state table chunk index at.at_open.shown.kept at.is_part.table_below at.is_part.chunk_below below)
        number session now then current later is mark its_time.entry has_noted unstamped is_stamped (used_same (chunk * setting.rows + index)) own
        (subst (λ (t : ℕ). StampedPlace (id_of (label_here session)) t was place) (sym its_time.time_is) (change.own own))
  ]

  -- ---- the chunk

  module _ (visited_show : VisitedChunksShow) (pruned_show : PrunedChunksShow) (visits_show : ChunkVisitsShow) (going : GoingOnIsTaken) where
    was_shown : ChunkIs setting table chunk old × ChunkShows setting state core sessions table chunk old
    was_shown = visited_show setting state parts sessions number session now current table chunk old at

    abbrev stamps : Place → Place → Type 0
    stamps = AtOwn (id_of (label_here session)) (StampedPlace (id_of (label_here session)) time)

    between_is : ChunkIs setting table chunk visit.between
    between_is = chunk_still setting table chunk (Everywhere stamps) old visit.between was_shown.0 visit.chunk
        (everywhere_length stamps old.places visit.between.places visit.chunk.places)

    between_shows : ChunkShows setting after core news table chunk visit.between
    between_shows index place e =
        let done = everywhere_at stamps old.places visit.between.places index place visit.chunk.places e in
        place_shows index done.0 place (let within = slice_get_within visit.between.places index place e in let long = between_is.places in omega
        (arith, within, long))
        (was_shown.1 index done.0 done.1.0) done.1.1

    new_shown : ChunkIs setting table chunk new × ChunkShows setting after core news table chunk new
    new_shown = pruned_show setting after core news session now.cover table chunk visit.between new at.at_open.shown.below_ids core_then
        opened.cover_holds.held between_is between_shows visit.prunes

    stamp_taken : IsTaken setting state parts sessions number (Visits [] (phase.Stamping (suc visited))) (chunk_number setting table chunk) progress gone
        (ChunkPart new)
    stamp_taken = going.visits setting state parts sessions number session now current [] (phase.Stamping (suc visited)) [] (phase.Stamping (suc visited))
        (chunk_number setting table chunk) progress gone (ChunkPart new) is visit.turn
        (visits_show setting state parts sessions number session now then current later table chunk old new at keeps went elsewhere new_shown.0 new_shown.1)

pub stamps_are : VisitedChunksShow → PrunedChunksShow → ChunkVisitsShow → GoingOnIsTaken → StampsAreTaken
stamps_are visited_show pruned_show visits_show going setting state parts sessions number session now current table chunk old visited progress gone new at
    phase_is turn_of visit =
    stamp_taken setting state parts sessions number session now current table chunk old visited progress gone new at phase_is turn_of visit
    visited_show pruned_show visits_show going
