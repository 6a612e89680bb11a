-- An undo visit is the machine's: its chunk is not held any more, and shows that.
use Rattle.std.proofs.Common.{◌≡◌, ◌≢◌, ℕ, suc, ◌+◌, ◌*◌, ◌<◌, List, [], Some, Bool, true, false, refl, sym, ap, ◌∙◌}
use Rattle.std.proofs.Common.{subst, arith, cond, inl, inr}
use Rattle.std.specs.Prelude.{slice_get}
use Rattle.std.proofs.lemmas.Bool.{cases_Bool}
use Rattle.std.proofs.lemmas.Option.{slice_get_within}
use Rattle.hy_stamp.specs.Times.{id_of}
use Rattle.hy_chain.specs.Chains.{newest}
use Rattle.hy_undo.specs.Places.{Place}
use Rattle.hy_undo.specs.Chunks.{ChunkData, Undone, AtOwn, Everywhere, is_own}
use Rattle.hy_event.specs.declared.SessionData.{SessionData}
use Rattle.hy_event.specs.declared.Open.{Open}
use Rattle.hy_protocol.specs.declared.Phase.TheVariants as phase
use Rattle.hy_protocol.specs.Turns.{is_stamping}
use Rattle.hy_event.specs.Sessions.{label_of}
use Rattle.hy_event.specs.Turns.{after_visit as visited_by}
use Rattle.hy_event.specs.Events.{Part, ChunkPart}
use Rattle.hy_bound.specs.declared.Ending.{Ending}
use Rattle.hy_machine.specs.declared.Setting.{Setting}
use Rattle.hy_machine.specs.States.{State, Open as MachineOpen}
use Rattle.hy_machine.specs.Positions.{item_at}
use Rattle.hy_machine.specs.Writes.{written_chunks}
use Rattle.hy_machine.specs.Sessions.{snapshot, view}
use Rattle.hy_machine.specs.Holding.{holds, undone}
use Rattle.hy_machine.specs.Steps.{after_visit}
use Rattle.hy_refinement.specs.Stamped.{is_unstamped}
use Rattle.hy_refinement.specs.Sessions.{OpenShows}
use Rattle.hy_refinement.specs.Places.{PlaceShows}
use Rattle.hy_refinement.specs.Parts.{ChunkIs}
use Rattle.hy_refinement.specs.Taken.{AtChunk, chunk_number}
use Rattle.hy_refinement.specs.Frames.{gone_on, sessions_on, KeepsStart, WentOn, StandsElsewhere, ChunkShows, UnmovedPlacesShow, ChunkVisitsShow}
use Rattle.hy_refinement.specs.Frames.{VisitedChunksShow, GoingOnIsTaken}
use Rattle.hy_refinement.specs.Visits.{UndosAreTaken}
use Rattle.hy_refinement.proofs.RivalTops.{open_shown}
use Rattle.hy_refinement.proofs.NotedPlaces.{not_marked}
use Rattle.hy_refinement.proofs.ChunkPlaces.{has_position}
use Rattle.hy_refinement.proofs.FramesTurns.{everywhere_length, everywhere_at, chunk_still}
use Rattle.hy_refinement.proofs.OpensGoneOn.{unstamped_on}
use Rattle.hy_refinement.proofs.OwnRecords.{own_record}
use Rattle.hy_refinement.proofs.UndoneShows.{undone_shows}
use Rattle.hy_refinement.proofs.UndoneChunks.{chunk_is_of, holds_not, holds_still}

module _ (setting : Setting) (state : State) (parts : List Part) (sessions : List SessionData) (number : ℕ)
    (session : SessionData) (now : Open) (current : MachineOpen) (table chunk : ℕ) (old : ChunkData) (visited : ℕ) (cause : Ending)
    (at : AtChunk setting state parts sessions number session now current table chunk old)
    (quiet : is_stamping current.phase ≡ false) (done : undone current.phase ≡ visited)
    (here : slice_get (written_chunks setting current.begun.own) visited ≡ Some (table, chunk)) where
  abbrev then : Open
  then = visited_by [] (phase.Undoing (suc visited) cause) now

  abbrev later : MachineOpen
  later = after_visit [] (phase.Undoing (suc visited) cause) current

  unmarked : state.mark ≢ Some number
  unmarked = not_marked setting state number current at.at_open.shown.kept at.at_open.is_open.open_there quiet

  shows : OpenShows setting state at.at_open.shown.shows.core number now current
  shows = open_shown setting state at.at_open.shown.shows.core sessions number session now current at.at_open.shown.shows.sessions_show at.at_open.is_open

  keeps : KeepsStart now then current later
  keeps = record { start = refl; prefix = refl; cover = refl; prefix_there = refl; low_there = refl }

  went : WentOn setting state at.at_open.shown.shows.core number then later
  went = record {
    open_shows = record {
      prefix = shows.open_shows.prefix;
      replies = shows.open_shows.replies;
      records = shows.open_shows.records;
      took = shows.open_shows.took;
      phase = refl;
    };
    notes_show = λ other. record { all = (shows.notes_show other).all; saved = (shows.notes_show other).saved };
    gathered_shows = λ visits count e. absurd cc;
    stamping = λ visits e. absurd cc;
  }

  same_stamped : (other another : ℕ) → is_unstamped setting (gone_on state number later) other another ≡ is_unstamped setting state other another
  same_stamped other another = unstamped_on setting state number other another later unmarked

  free : (index : ℕ) → index < setting.rows → holds setting table (chunk * setting.rows + index) (Some later) ≡ false
  free index below = holds_not setting table chunk (chunk * setting.rows + index) visited later (chunk_is_of setting chunk index below) refl here

  elsewhere : StandsElsewhere setting state number current later table chunk
  elsewhere other another index apart below =
      let same : holds setting other (another * setting.rows + index) (Some later) ≡ holds setting other (another * setting.rows + index) (Some current) =
      holds_still setting table chunk other another (another * setting.rows + index) visited current later (chunk_is_of setting another index below) done refl
      refl here apart in record {
        holds_it = same;
        cell = ap (λ (b : Bool). cond b (item_at (view setting state current.begun) other (another * setting.rows + index))
            (item_at (snapshot setting state current.begun.prefix) other (another * setting.rows + index))) same;
        unstamped = same_stamped other another;
      }

  -- a position of the chunk
  module _ (unmoved : UnmovedPlacesShow) (index : ℕ) (place new : Place) (below : index < setting.rows)
      (place_shows : PlaceShows setting state at.at_open.shown.shows.core sessions table chunk (chunk * setting.rows + index) place)
      (change : AtOwn (id_of (label_of session)) (Undone (id_of (label_of session))) place new) where
    held_is : is_own (id_of (label_of session)) (newest place.chain) ≡ holds setting table (chunk * setting.rows + index) (Some current)
    held_is = (place_shows.own_heads number session now current at.at_open.is_open (inl unmarked)).holds_it

    by_own : is_own (id_of (label_of session)) (newest place.chain) ≡ true
        → PlaceShows setting (gone_on state number later) at.at_open.shown.shows.core (sessions_on sessions number session then) table chunk
        (chunk * setting.rows + index) new
    by_own own =
        undone_shows (record {
          has = own_record setting state at.at_open.shown.shows.core sessions table chunk (chunk * setting.rows + index) place (record {
            kept = at.at_open.shown.kept;
            below_ids = at.at_open.shown.below_ids;
            core_shows = at.at_open.shown.shows.core_shows;
            sessions_show = at.at_open.shown.shows.sessions_show;
            place_shows = place_shows;
          }) number session now current at.at_open.is_open unmarked own;
          undone = change.own own;
        })
        (has_position setting state table chunk index at.at_open.shown.kept at.is_part.table_below at.is_part.chunk_below below)
        then later keeps (free index below) (same_stamped table chunk)

    by_other : is_own (id_of (label_of session)) (newest place.chain) ≡ false
        → PlaceShows setting (gone_on state number later) at.at_open.shown.shows.core (sessions_on sessions number session then) table chunk
        (chunk * setting.rows + index) new
    by_other other =
        let not_held : holds setting table (chunk * setting.rows + index) (Some current) ≡ false = sym held_is ∙ other in
        let same : holds setting table (chunk * setting.rows + index) (Some later) ≡ holds setting table (chunk * setting.rows + index) (Some current) =
        free index below ∙ sym not_held in
        subst (λ (p : Place). PlaceShows setting (gone_on state number later) at.at_open.shown.shows.core (sessions_on sessions number session then)
        table chunk (chunk * setting.rows + index) p) (sym (change.others other))
        (unmoved setting state at.at_open.shown.shows.core sessions number session now then current later table chunk (chunk * setting.rows + index) place
        at.at_open.is_open keeps
        (record {
          holds_it = same;
          cell = ap (λ (b : Bool). cond b (item_at (view setting state current.begun) table (chunk * setting.rows + index))
              (item_at (snapshot setting state current.begun.prefix) table (chunk * setting.rows + index))) same;
          unstamped = same_stamped table chunk;
        })
        place_shows)

    pub at_position : PlaceShows setting (gone_on state number later) at.at_open.shown.shows.core (sessions_on sessions number session then) table chunk
        (chunk * setting.rows + index) new
    at_position = elim (cases_Bool (is_own (id_of (label_of session)) (newest place.chain))) [ inl own ↦ by_own own | inr other ↦ by_other other ]

pub undos_are : UnmovedPlacesShow → VisitedChunksShow → ChunkVisitsShow → GoingOnIsTaken → UndosAreTaken
undos_are unmoved visited_show visits_show going_on setting state parts sessions number session now current table chunk old visited cause progress after new
    at quiet done here visit =
    going_on.visits setting state parts sessions number session now current [] (phase.Undoing (suc visited) cause) []
    (phase.Undoing (suc visited) cause) (chunk_number setting table chunk) progress after (ChunkPart new) at.at_open.is_open visit.turn
    (visits_show setting state parts sessions number session now (visited_by [] (phase.Undoing (suc visited) cause) now) current
    (after_visit [] (phase.Undoing (suc visited) cause) current) table chunk old new at
    (keeps setting state parts sessions number session now current table chunk old visited cause at quiet done here)
    (went setting state parts sessions number session now current table chunk old visited cause at quiet done here)
    (elsewhere setting state parts sessions number session now current table chunk old visited cause at quiet done here)
    chunk_is chunk_shows)
  where
    before : ChunkIs setting table chunk old × ChunkShows setting state at.at_open.shown.shows.core sessions table chunk old
    before = visited_show setting state parts sessions number session now current table chunk old at

    change : Everywhere (AtOwn (id_of (label_of session)) (Undone (id_of (label_of session)))) old.places new.places
    change = visit.chunk.places

    chunk_is : ChunkIs setting table chunk new
    chunk_is =
        chunk_still setting table chunk (Everywhere (AtOwn (id_of (label_of session)) (Undone (id_of (label_of session))))) old new before.0 visit.chunk
        (everywhere_length (AtOwn (id_of (label_of session)) (Undone (id_of (label_of session)))) old.places new.places change)

    chunk_shows : ChunkShows setting (gone_on state number (after_visit [] (phase.Undoing (suc visited) cause) current)) at.at_open.shown.shows.core
        (sessions_on sessions number session (visited_by [] (phase.Undoing (suc visited) cause) now)) table chunk new
    chunk_shows index place e =
        let one = everywhere_at (AtOwn (id_of (label_of session)) (Undone (id_of (label_of session)))) old.places new.places index place change e in
        let within = slice_get_within old.places index one.0 one.1.0 in
        let long = before.0.places in
        at_position setting state parts sessions number session now current table chunk old visited cause at quiet done here unmoved index one.0 place
        (omega (arith, within, long)) (before.1 index one.0 one.1.0) one.1.1
