-- A visit of an INSERT that looks for a position is the machine's turn.
use Rattle.std.proofs.Common.{◌≡◌, ℕ, suc, ◌+◌, ◌*◌, ◌<◌, List, [], ◌∷◌, ◌++◌, length, Option, None, Some, Bool, true, false}
use Rattle.std.proofs.Common.{refl, sym, ap, ◌∙◌, subst, arith, cond, position, option_map}
use Rattle.std.specs.Prelude.{slice_get, nat_lt}
use Rattle.std.proofs.lemmas.List.{length-set}
use Rattle.std.proofs.lemmas.Nat.{mul-add-lt}
use Rattle.std.proofs.lemmas.Option.{slice_get_within}
use Rattle.hy_value.specs.declared.Value.{Value}
use Rattle.hy_stamp.specs.declared.Label.{Label}
use Rattle.hy_stamp.specs.declared.Viewer.{Viewer}
use Rattle.hy_stamp.specs.Times.{IsLabel, id_of}
use Rattle.hy_prune.specs.Fates.{watermark_of}
use Rattle.hy_bound.specs.declared.Bound.TheVariants.{Insert}
use Rattle.hy_bound.specs.declared.Record.{Record}
use Rattle.hy_bound.specs.declared.Reply.{Reply}
use Rattle.hy_bound.specs.declared.Reply.TheVariants as reply
use Rattle.hy_value.specs.declared.change.Change.{Change}
use Rattle.hy_plan.specs.Reads.{records_of}
use Rattle.hy_undo.specs.Places.{Place, Cell, is_free as is_free_here}
use Rattle.hy_undo.specs.Chunks.{ChunkData, Placed}
use Rattle.hy_journal.specs.declared.CoreData.{CoreData}
use Rattle.hy_event.specs.declared.SessionData.{SessionData}
use Rattle.hy_event.specs.declared.Open.{Open}
use Rattle.hy_protocol.specs.declared.Phase.{Phase}
use Rattle.hy_protocol.specs.declared.Phase.TheVariants as phase
use Rattle.hy_protocol.specs.declared.Progress.{Progress}
use Rattle.hy_event.specs.Sessions.{label_of, viewer_of}
use Rattle.hy_event.specs.Changing.{OnlyPlaces, OnlyAt}
use Rattle.hy_event.specs.Events.{Part, ChunkPart}
use Rattle.hy_protocol.specs.Turns.{goes_on as goes_on_here, refused as refuses}
use Rattle.hy_event.specs.Turns.{Takes, answer_turn}
use Rattle.hy_protocol.specs.Turns.{Visits as visits_here}
use Rattle.hy_event.specs.Turns.{after_visit as visited_by, after_answer as answered_by}
use Rattle.hy_event.specs.Inserting.{PlaceVisit, Comes, place_turn as place_turn_here}
use Rattle.hy_bound.specs.declared.Ending.TheVariants.{Full}
use Rattle.hy_machine.specs.declared.Setting.{Setting}
use Rattle.hy_machine.specs.States.{State, Open as MachineOpen}
use Rattle.hy_protocol.specs.Turns.{Visits, Answers, goes_on, refused}
use Rattle.hy_machine.specs.Turns.{place_turn, answers}
use Rattle.hy_machine.specs.Writes.{Write}
use Rattle.hy_machine.specs.Sessions.{session_at, view, txn_at}
use Rattle.hy_machine.specs.Holding.{undone, is_free}
use Rattle.hy_machine.specs.Visits.{free_position}
use Rattle.hy_machine.specs.Steps.{after_visit, after_answer}
use Rattle.hy_refinement.specs.Transactions.{IsOpen}
use Rattle.hy_refinement.specs.Sessions.{NotesShow, GatheredBy, OpenShows, statement_at}
use Rattle.hy_refinement.specs.Gathered.{gathered_first}
use Rattle.hy_refinement.specs.Parts.{ChunkIs}
use Rattle.hy_refinement.specs.Free.{FreeIsTheMachines}
use Rattle.hy_refinement.specs.Taken.{AtChunk, AtStatement, IsTaken, chunk_number}
use Rattle.hy_refinement.specs.Frames.{KeepsStart, WentOn, StandsAsBefore, ChunkShows, with_own, with_noted}
use Rattle.hy_refinement.specs.Frames.{UnmovedPlacesShow, ChunkVisitsShow, PrunedChunksShow, VisitedChunksShow, GoingOnIsTaken, NotesFollowWrites}
use Rattle.hy_refinement.proofs.RivalTops.{open_shown}
use Rattle.hy_refinement.proofs.WritesOwn.{has_position}
use Rattle.hy_refinement.proofs.WritesChunk.{AtWork, fits, trail_fits, stands}
use Rattle.hy_refinement.proofs.PlacesAlone.{free_there}
use Rattle.hy_refinement.proofs.PlacesShown.{view_empty}
use Rattle.hy_refinement.proofs.PlacesFirst.{same_first, first_passes}
use Rattle.hy_refinement.proofs.FramesTurns.{chunk_still}
use Rattle.hy_refinement.proofs.PlacesChunk.{within, placed_elsewhere, chunk_placed}
use Rattle.hy_refinement.proofs.PlacesWork.{at_work_in}

-- the laws by which a visit is the machine's
pub record Laws : Type 0 where
  pub one_id : (a b : Label) → IsLabel a → IsLabel b → id_of a ≡ id_of b → a ≡ b
  pub visited : VisitedChunksShow
  pub pruned : PrunedChunksShow
  pub frees : FreeIsTheMachines
  pub follow : NotesFollowWrites
  pub unmoved : UnmovedPlacesShow
  pub visits : ChunkVisitsShow
  pub taken : GoingOnIsTaken

module _ (laws : Laws) (setting : Setting) (state : State) (parts : List Part) (sessions : List SessionData) (number : ℕ) (session : SessionData)
    (now : Open) (current : MachineOpen) (table chunk : ℕ) (old : ChunkData) (visited count : ℕ) (row : List Value)
    (at : AtChunk setting state parts sessions number session now current table chunk old)
    (stands_at : AtStatement setting state number now visited count (Some (Insert table row))) where
  abbrev core : CoreData
  core = at.at_open.shown.shows.core

  abbrev viewer : Viewer
  viewer = viewer_of session now

  abbrev first : ℕ
  first = chunk * setting.rows

  is : IsOpen state sessions number session now current
  is = at.at_open.is_open

  shows_open : OpenShows setting state core number now current
  shows_open = open_shown setting state core sessions number session now current at.at_open.shown.shows.sessions_show is

  work : AtWork setting state core sessions number session now current table chunk
  work = at_work_in laws.one_id setting state parts sessions number session now current table chunk old visited count at stands_at.phase_is

  same_chunks : session.chunks ≡ setting.chunks
  same_chunks = (at.at_open.shown.shows.sessions_show.each number session is.found).session_is.chunks

  same_shapes : session.shapes ≡ setting.shapes
  same_shapes = (at.at_open.shown.shows.sessions_show.each number session is.found).session_is.shapes

  -- ---- no position of the chunk is free

  -- it goes on with nothing written
  module _ (stands_then : Phase) (free : undone stands_then ≡ 0)
      (no_stamps : (visits : ℕ) → stands_then ≡ phase.Stamping visits → ⊥) where
    abbrev then : Open
    then = visited_by [] stands_then now

    abbrev later : MachineOpen
    later = after_visit [] stands_then current

    keeps : KeepsStart now then current later
    keeps = record { start = refl; prefix = refl; cover = refl; prefix_there = refl; low_there = refl }

    went : WentOn setting state core number then later
    went = record {
      open_shows = record {
        prefix = shows_open.open_shows.prefix;
        replies = shows_open.open_shows.replies;
        records = shows_open.open_shows.records;
        took = shows_open.open_shows.took;
        phase = refl;
      };
      notes_show = λ unmarked. record { all = (shows_open.notes_show unmarked).all; saved = (shows_open.notes_show unmarked).saved };
      gathered_shows = λ visits counts e.
          subst (GatheredBy setting (view setting state later.begun) visits now.gathered) (sym stands_at.statement_is)
          (subst (GatheredBy setting (view setting state current.begun) visited now.gathered) stands_at.statement_is
          (shows_open.gathered_shows visited count stands_at.phase_is));
      stamping = λ visits e. absurd (no_stamps visits e);
    }

    stands_on : (other another pos : ℕ) → StandsAsBefore setting state number other another pos current later
    stands_on other another pos =
        stands setting state core sessions number session now current table chunk work then later other another pos keeps free
        (fits setting state core sessions number session now current table chunk work) refl

    none_taken : (between new : ChunkData) (progress : Progress) (after : SessionData) → ChunkIs setting table chunk between
        → ChunkShows setting state core sessions table chunk between → new ≡ between
        → Takes session (visits_here [] stands_then) progress after
        → IsTaken setting state parts sessions number (Visits [] stands_then) (chunk_number setting table chunk) progress after (ChunkPart new)
    none_taken between new progress after chunk_is chunk_shows same_chunk takes =
        laws.taken.visits setting state parts sessions number session now current [] stands_then [] stands_then (chunk_number setting table chunk)
        progress after (ChunkPart new) is takes
        (laws.visits setting state parts sessions number session now then current later table chunk old new at keeps went
        (λ other another index apart below. stands_on other another (another * setting.rows + index))
        (subst (ChunkIs setting table chunk) (sym same_chunk) chunk_is)
        (λ index place e. laws.unmoved setting state core sessions number session now then current later table chunk (first + index) place is keeps
        (stands_on table chunk (first + index))
        (chunk_shows index place (ap (λ (c : ChunkData). slice_get c.places index) (sym same_chunk) ∙ e))))

  none_free : (between new : ChunkData) (progress : Progress) (after : SessionData) → ChunkIs setting table chunk between
      → ChunkShows setting state core sessions table chunk between → new ≡ between
      → Takes session (place_turn_here session now visited chunk (Insert table row) table row None) progress after
      → IsTaken setting state parts sessions number (place_turn setting current.begun visited chunk (Insert table row) table row None)
      (chunk_number setting table chunk) progress after (ChunkPart new)
  none_free between new progress after chunk_is chunk_shows same_chunk takes =
      by_more (nat_lt (suc chunk) setting.chunks)
      (subst (λ (n : ℕ). Takes session (cond (nat_lt (suc chunk) n) (goes_on_here visited) (refuses (Full table))) progress after) same_chunks takes)
    where
      by_more : (more : Bool) → Takes session (cond more (goes_on_here visited) (refuses (Full table))) progress after
          → IsTaken setting state parts sessions number (cond more (goes_on visited) (refused (Full table)))
          (chunk_number setting table chunk) progress after (ChunkPart new)
      by_more true goes =
          none_taken (phase.Working (suc visited) 0) refl (λ visits e. absurd cc)
          between new progress after chunk_is chunk_shows same_chunk goes
      by_more false goes =
          none_taken (phase.Undoing 0 (Full table)) refl (λ visits e. absurd cc)
          between new progress after chunk_is chunk_shows same_chunk goes

  -- ---- a position is free

  module _ (between new : ChunkData) (index : ℕ) (chunk_is : ChunkIs setting table chunk between)
      (chunk_shows : ChunkShows setting state core sessions table chunk between)
      (only : OnlyPlaces (OnlyAt index (Placed viewer (label_of session) (watermark_of now.cover) row)) between new)
      (free : is_free setting state current.begun table (first + index) ≡ true) where
    abbrev pos : ℕ
    pos = first + index

    abbrev changes : List Change
    changes = record { table = table; pos = pos; before = None; after = Some row } ∷ []

    abbrev write : Write
    write = record { table = table; pos = pos; cell = Some row }

    abbrev records : List Record
    records = records_of session.shapes (suc (length now.replies)) (Insert table row) []

    abbrev then_placed : Open
    then_placed = answered_by changes reply.Inserted (Some pos) records now

    abbrev later_placed : MachineOpen
    later_placed = after_answer (write ∷ []) reply.Inserted (Some pos) records current

    inside : index < setting.rows
    inside = let l = slice_get_within between.places index only.places.was only.places.found in let long = chunk_is.places in omega (arith, l, long)

    keeps_placed : KeepsStart now then_placed current later_placed
    keeps_placed = record { start = refl; prefix = refl; cover = refl; prefix_there = refl; low_there = refl }

    -- it saw no row there, and so the change is noted
    notes : NotesShow setting state (with_noted now (record { table = table; pos = pos; before = None; after = Some row })) (with_own current write)
    notes =
        subst (λ (before : Cell). NotesShow setting state
        (with_noted now (record { table = table; pos = pos; before = before; after = Some row })) (with_own current write))
        (view_empty setting state core sessions table chunk pos number session now current work (free_there setting state current.begun table pos free))
        (laws.follow setting state now current table pos (Some row)
        (fits setting state core sessions number session now current table chunk work)
        (trail_fits setting state core sessions number session now current table chunk work) work.table_below
        (within setting state core sessions number session now then_placed current later_placed table chunk index row work inside keeps_placed refl refl)
        (shows_open.notes_show work.unmarked))

    went_placed : WentOn setting state core number then_placed later_placed
    went_placed = record {
      open_shows = record {
        prefix = shows_open.open_shows.prefix;
        replies = ap (λ (replies : List Reply). replies ++ reply.Inserted ∷ []) shows_open.open_shows.replies;
        records = ap (λ (all : List Record). all ++ records) shows_open.open_shows.records;
        took = ap (λ (took : List (Option ℕ)). took ++ Some pos ∷ []) shows_open.open_shows.took;
        phase = refl;
      };
      notes_show = λ unmarked. record { all = notes.all; saved = notes.saved };
      gathered_shows = λ visits counts e.
          let none : 0 ≡ visits = cc in
          subst (λ (n : ℕ). GatheredBy setting (view setting state later_placed.begun) n [] (statement_at (txn_at setting number (session_at state number))
          (length then_placed.replies))) none
          (gathered_first setting (view setting state later_placed.begun) (statement_at (txn_at setting number (session_at state number))
          (length then_placed.replies)));
      stamping = λ visits e. absurd cc;
    }

    placed_taken : (progress : Progress) (after : SessionData)
        → Takes session (answer_turn session now (Insert table row) [] changes reply.Inserted (Some pos)) progress after
        → IsTaken setting state parts sessions number
        (answers setting current.begun (Insert table row) [] (write ∷ []) reply.Inserted (Some pos))
        (chunk_number setting table chunk) progress after (ChunkPart new)
    placed_taken progress after takes =
        let read : records ≡ records_of setting.shapes (suc (length current.begun.replies)) (Insert table row) [] =
        ap (λ shapes. records_of shapes (suc (length now.replies)) (Insert table row) []) same_shapes
        ∙ ap (λ (replies : List Reply). records_of setting.shapes (suc (length replies)) (Insert table row) []) shows_open.open_shows.replies in
        subst (λ (r : List Record). IsTaken setting state parts sessions number (Answers (write ∷ []) reply.Inserted (Some pos) r)
        (chunk_number setting table chunk) progress after (ChunkPart new)) read
        (laws.taken.answers setting state parts sessions number session now current changes reply.Inserted (Some pos) records (write ∷ [])
        (chunk_number setting table chunk) progress after (ChunkPart new) is takes
        (laws.visits setting state parts sessions number session now then_placed current later_placed table chunk old new at keeps_placed went_placed
        (placed_elsewhere setting state core sessions number session now then_placed current later_placed table chunk index row work inside keeps_placed
        refl refl)
        (chunk_still setting table chunk (OnlyAt index (Placed viewer (label_of session) (watermark_of now.cover) row)) between new chunk_is only
        (ap (λ (places : List Place). length places) only.places.others ∙ length-set between.places index only.places.becomes))
        (chunk_placed setting state core sessions number session now then_placed current later_placed table chunk index row work inside keeps_placed
        refl refl laws.unmoved between new chunk_shows only free)))

  -- ---- the visit

  module _ (between new : ChunkData) (progress : Progress) (after : SessionData) (chunk_is : ChunkIs setting table chunk between)
      (chunk_shows : ChunkShows setting state core sessions table chunk between) where
    -- a position is free for the chunk where it is free in the machine
    same_free : (i : ℕ) (place : Place) → slice_get between.places i ≡ Some place
        → is_free setting state current.begun table (first + i) ≡ is_free_here (watermark_of now.cover) place
    same_free i place e =
        let l = slice_get_within between.places i place e in
        let long = chunk_is.places in
        let room = mul-add-lt chunk setting.rows i setting.chunks work.chunk_below (omega (arith, l, long)) in
        sym (laws.frees setting state core sessions table chunk (first + i) place
        (record {
          kept = work.kept;
          below_ids = work.below_ids;
          core_shows = work.core_shows;
          sessions_show = work.sessions_show;
          place_shows = chunk_shows i place e;
        })
        (has_position setting table (first + i) work.table_below (omega (arith, room)))
        number session now current is work.unmarked)

    by_found : (found : Option ℕ) → position (is_free_here (watermark_of now.cover)) between.places ≡ found
        → Comes viewer (label_of session) now.cover row found between new
        → Takes session (place_turn_here session now visited chunk (Insert table row) table row (option_map (λ (index : ℕ). first + index) found)) progress
        after
        → IsTaken setting state parts sessions number
        (place_turn setting current.begun visited chunk (Insert table row) table row (option_map (λ (index : ℕ). first + index) found))
        (chunk_number setting table chunk) progress after (ChunkPart new)
    by_found None e comes takes = none_free between new progress after chunk_is chunk_shows comes takes
    by_found (Some index) e comes takes =
        placed_taken between new index chunk_is chunk_shows comes
        (same_free index comes.places.was comes.places.found
        ∙ first_passes (is_free_here (watermark_of now.cover)) between.places index comes.places.was e comes.places.found)
        progress after takes

    found_there : free_position setting state current.begun table chunk
        ≡ option_map (λ (index : ℕ). first + index) (position (is_free_here (watermark_of now.cover)) between.places)
    found_there =
        same_first (is_free_here (watermark_of now.cover)) (is_free setting state current.begun table) first between.places setting.rows chunk_is.places
        same_free

    between_taken : Comes viewer (label_of session) now.cover row (position (is_free_here (watermark_of now.cover)) between.places) between new
        → Takes session (place_turn_here session now visited chunk (Insert table row) table row
        (option_map (λ (index : ℕ). between.first + index) (position (is_free_here (watermark_of now.cover)) between.places))) progress after
        → IsTaken setting state parts sessions number
        (place_turn setting current.begun visited chunk (Insert table row) table row (free_position setting state current.begun table chunk))
        (chunk_number setting table chunk) progress after (ChunkPart new)
    between_taken comes takes =
        subst (λ (o : Option ℕ). IsTaken setting state parts sessions number
        (place_turn setting current.begun visited chunk (Insert table row) table row o) (chunk_number setting table chunk) progress after (ChunkPart new))
        (sym found_there)
        (by_found (position (is_free_here (watermark_of now.cover)) between.places) refl comes
        (subst (λ (n : ℕ). Takes session (place_turn_here session now visited chunk (Insert table row) table row
        (option_map (λ (index : ℕ). n + index) (position (is_free_here (watermark_of now.cover)) between.places))) progress after) chunk_is.first takes))

  pub visit_is_taken : (progress : Progress) (after : SessionData) (new : ChunkData)
      → PlaceVisit session now visited chunk (Insert table row) table row old progress after new
      → IsTaken setting state parts sessions number
      (place_turn setting current.begun visited chunk (Insert table row) table row (free_position setting state current.begun table chunk))
      (chunk_number setting table chunk) progress after (ChunkPart new)
  visit_is_taken progress after new visit =
      let was = laws.visited setting state parts sessions number session now current table chunk old at in
      let pruned = laws.pruned setting state core sessions session now.cover table chunk old visit.between at.at_open.shown.below_ids
      at.at_open.shown.shows.core_shows shows_open.cover_holds.held was.0 was.1 visit.prunes in
      between_taken visit.between new progress after pruned.0 pruned.1 visit.chunk visit.turn
