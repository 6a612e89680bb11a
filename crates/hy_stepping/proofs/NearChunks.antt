-- A visit of a chunk that a session needs may be made, where a reached state is shown.
use Rattle.std.proofs.Common.{◌≡◌, ℕ, zero, suc, ◌+◌, ◌-◌, ◌*◌, ◌^◌, ◌<◌, ◌≤◌, List, [], ◌∷◌, length, get_or, Some, sym, ap, ◌∙◌, subst, arith}
use Rattle.std.specs.Prelude.{slice_get}
use Rattle.std.specs.List.{AllZip}
use Rattle.std.proofs.lemmas.Option.{same_Some}
use Rattle.hy_value.specs.declared.Kind.{Kind}
use Rattle.hy_bound.specs.declared.Bound.{Bound}
use Rattle.hy_bound.specs.declared.Bound.TheVariants.{RollbackTo}
use Rattle.hy_bound.specs.declared.Shape.{Shape}
use Rattle.hy_bound.specs.Fits.{FitsStatement}
use Rattle.hy_bound.specs.Records.{shape_of, no_shape}
use Rattle.hy_stamp.specs.Times.{id_of}
use Rattle.hy_chain.specs.Chains.{Falls}
use Rattle.hy_undo.specs.Places.{Place}
use Rattle.hy_undo.specs.Chunks.{ChunkData}
use Rattle.hy_journal.specs.declared.CoreData.{CoreData}
use Rattle.hy_chunk.specs.Views.{Whole}
use Rattle.hy_visit.specs.Backing.{MayAllGoBack}
use Rattle.hy_visit.specs.Pruning.{AllFall, AllUnderOwn, UnderOwn}
use Rattle.hy_event.specs.declared.SessionData.{SessionData}
use Rattle.hy_event.specs.declared.Open.{Open}
use Rattle.hy_protocol.specs.declared.Phase.TheVariants as phase
use Rattle.hy_protocol.specs.Turns.{is_stamping}
use Rattle.hy_event.specs.declared.Need.TheVariants.{Chunk}
use Rattle.hy_event.specs.Sessions.{label_of, notes_since}
use Rattle.hy_event.specs.Needs.{need_of}
use Rattle.hy_event.specs.Events.{Part, ChunkPart}
use Rattle.hy_machine.specs.declared.Setting.{Setting}
use Rattle.hy_machine.specs.States.{State}
use Rattle.hy_machine.specs.Sessions.{session_at}
use Rattle.hy_machine.specs.Kept.{Kept}
use Rattle.hy_lawful.specs.Kept.{ReachedAreKept}
use Rattle.hy_lawful.specs.Rows.{ReachedRowsMeetDemands}
use Rattle.hy_lawful.specs.Views.{ReachedKeysStay}
use Rattle.hy_refinement.specs.OwnRecords.{BehindOwnIsTheStart, NotesHaveWhatWasSeen}
use Rattle.hy_refinement.specs.Transactions.{IsOpen}
use Rattle.hy_refinement.specs.Sessions.{SessionShows}
use Rattle.hy_refinement.specs.Places.{PlaceShows}
use Rattle.hy_refinement.specs.Rivals.{ShownAt}
use Rattle.hy_refinement.specs.Parts.{IsChunkPart, ChunkIs}
use Rattle.hy_session.specs.Near.{NearOpen, NearChunk, IsTyped, HasVisitLeft, present_statement}
use Rattle.hy_stepping.specs.Typed.{AreTyped, IsTypedIn, kinds_of}
use Rattle.hy_stepping.specs.Runnable.{IsShown}
use Rattle.hy_stepping.specs.Steps.{NeededChunksAreThere, ChunksAreNear}
use Rattle.hy_stepping.proofs.OpenOnes.{kept_of, one_of_all, txn_fits, OpenOne, open_one}
use Rattle.hy_stepping.proofs.Clock.{clock_below}
use Rattle.hy_stepping.proofs.FittedTables.{tables_fit}
use Rattle.hy_stepping.proofs.StepsShown.{have_labels}
use Rattle.hy_stepping.proofs.VisitsLeft.{visit_left}
use Rattle.hy_stepping.proofs.ChunkMarks.{IdsDiffer, all_places, under_own}
use Rattle.hy_stepping.proofs.RowTypes.{is_typed, begins_typed}
use Rattle.hy_stepping.proofs.RowsBack.{BackLaws, all_go_back}
use Rattle.hy_stepping.proofs.ChunkStatements.{at_present, statement_needs, txn_typed, typed_here, visits_fit, left_of}

-- what holds of two lists place by place holds at a place
zip_at : {A B : Type 0} (holds : A → B → Type 0) (xs : List A) (ys : List B) (index : ℕ) (x : A) (y : B) → AllZip holds xs ys → index < length xs
    → holds (get_or xs index x) (get_or ys index y)
zip_at holds [] ys index x y all less = absurd (omega (arith, less))
zip_at holds (one ∷ xs) [] index x y all less = absurd all
zip_at holds (one ∷ xs) (other ∷ ys) zero x y all less = all.0
zip_at holds (one ∷ xs) (other ∷ ys) (suc index) x y all less = zip_at holds xs ys index x y all.1 (omega (arith, less))

-- a part is one chunk
one_chunk : (parts : List Part) (number : ℕ) (a b : ChunkData) → slice_get parts number ≡ Some (ChunkPart a) → slice_get parts number ≡ Some (ChunkPart b)
    → a ≡ b
one_chunk parts number a b e f = let same : ChunkPart a ≡ ChunkPart b = same_Some (ChunkPart a) (ChunkPart b) (sym e ∙ f) in cc

module _ (setting : Setting) (kinds : List (List Kind)) (state : State) (parts : List Part) (sessions : List SessionData) (number : ℕ)
    (session : SessionData) (table chunk : ℕ) (part : Whole)
    (differ : IdsDiffer) (shown : IsShown setting state parts sessions) (kept : Kept setting state)
    (typed : AreTyped kinds setting.shapes setting.first setting.programs)
    (found : slice_get sessions number ≡ Some session) (need : need_of session ≡ Chunk table chunk)
    (is_part : IsChunkPart setting parts table chunk part.shown) (types_are : part.kinds ≡ kinds_of kinds table)
    (back_laws : BackLaws setting kinds state) where
  abbrev core : CoreData
  core = shown.shows.core

  chunk_is : ChunkIs setting table chunk part.shown
  chunk_is =
      let has = shown.shows.parts_are.chunks table chunk is_part.table_below is_part.chunk_below in
      subst (λ (one : ChunkData). ChunkIs setting table chunk one)
      (one_chunk parts (table * setting.chunks + chunk) has.part part.shown has.is_part.found is_part.found) has.chunk_is

  session_shows : SessionShows setting state core number session
  session_shows = shown.shows.sessions_show.each number session found

  clock : core.next < 2 ^ 63
  clock = clock_below setting state core sessions shown.runnable kept shown.shows.core_shows

  -- ---- the chunk

  wide : length part.kinds ≡ (shape_of session.shapes part.shown.table).width
  wide =
      ap (λ (types : List Kind). length types) types_are
      ∙ (zip_at (λ (shape : Shape) (types : List Kind). length types ≡ shape.width) setting.shapes kinds table no_shape [] typed.tables
      is_part.table_below
      ∙ (ap (λ (shapes : List Shape). (shape_of shapes table).width) (sym session_shows.session_is.shapes)
      ∙ ap (λ (t : ℕ). (shape_of session.shapes t).width) (sym chunk_is.table_is)))

  keyed : part.shown.key ≡ (shape_of session.shapes part.shown.table).key
  keyed =
      chunk_is.key
      ∙ (ap (λ (shapes : List Shape). (shape_of shapes table).key) (sym session_shows.session_is.shapes)
      ∙ ap (λ (t : ℕ). (shape_of session.shapes t).key) (sym chunk_is.table_is))

  place_shows : (index : ℕ) (place : Place) → slice_get part.shown.places index ≡ Some place
      → PlaceShows setting state core sessions table chunk (chunk * setting.rows + index) place
  place_shows index place e = shown.shows.places_show table chunk index part.shown place is_part e

  falls : AllFall part.shown.places
  falls = all_places (λ (place : Place). Falls place.chain) part.shown.places (λ index place e. (place_shows index place e).falls)

  -- ---- its open transaction

  module _ (now : Open) (here : session.now ≡ Some now) where
    one : OpenOne setting state core number session now
    one = open_one setting state core number session now kept session_shows here

    is_open : IsOpen state sessions number session now one.current
    is_open = record { found = found; open_here = here; open_there = one.is_now }

    early : now.cover.next ≤ id_of (label_of session)
    early =
        let past = one.shows.cover_holds.held.past in
        let low = clock in
        omega (arith, past, low)

    shown_at : (index : ℕ) (place : Place) → slice_get part.shown.places index ≡ Some place
        → ShownAt setting state core sessions table chunk (chunk * setting.rows + index) place
    shown_at index place e = record {
      kept = kept;
      below_ids = let low = clock in omega (arith, low);
      core_shows = shown.shows.core_shows;
      sessions_show = shown.shows.sessions_show;
      place_shows = place_shows index place e;
    }

    under : (visited : ℕ) → now.phase ≡ phase.Stamping visited → AllUnderOwn (id_of (label_of session)) now.time part.shown.places
    under visited stamping =
        let shows = shown.shows.core_shows in
        let its = shows.mark_shows.stamping number session now one.current is_open visited stamping in
        let mark : state.mark ≡ Some number =
        kept.ranks.stamping number one.current one.is_now
        (ap is_stamping (sym one.shows.open_shows.phase ∙ stamping)) in
        let has_last : slice_get core.entries (length state.order - 1) ≡ Some its.entry =
        ap (λ (n : ℕ). slice_get core.entries (n - 1)) (sym shows.entries_show.count) ∙ its.last in
        all_places (λ (place : Place). UnderOwn (id_of (label_of session)) now.time place.chain) part.shown.places (λ index place e.
        subst (λ (t : ℕ). UnderOwn (id_of (label_of session)) t place.chain) its.time_is
        (under_own setting state core sessions table chunk (chunk * setting.rows + index) place (shown_at index place e)
        (have_labels setting state parts sessions kept shown) differ number session now one.current is_open mark its.entry has_last))

    typed_now : (visited count : ℕ) (statement : Bound) → now.phase ≡ phase.Working visited count → present_statement session now ≡ Some statement
        → IsTyped part.kinds part.shown.key statement
    typed_now visited count statement working present =
        let at = at_present setting state core number session now statement one present in
        let txn = txn_typed kinds setting number (length (session_at state number).done) one.txn typed.statements one.txn_there in
        typed_here kinds setting.shapes part.kinds part.shown.key session now visited table chunk statement types_are chunk_is.key
        (sym (statement_needs setting state core number session now statement visited count one here working at) ∙ need)
        (one_of_all (IsTypedIn kinds setting.shapes) one.txn.statements (length now.replies) statement txn at)

    visits : (visited count : ℕ) (statement : Bound) → now.phase ≡ phase.Working visited count → present_statement session now ≡ Some statement
        → HasVisitLeft session.chunks visited statement
    visits visited count statement working present =
        let at = at_present setting state core number session now statement one present in
        let txn = txn_fits setting number (length (session_at state number).done) one.txn shown.runnable one.txn_there in
        let fits = one_of_all (FitsStatement setting.shapes) one.txn.statements (length now.replies) statement txn.fit at in
        subst (λ (chunks : ℕ). HasVisitLeft chunks visited statement) (sym session_shows.session_is.chunks)
        (left_of setting visited statement
        (visit_left setting statement visited shown.runnable.some_chunk fits
        (visits_fit setting state core number session now statement visited count one working at)))

    back : (visited count : ℕ) (name : List ℕ) → now.phase ≡ phase.Working visited count → present_statement session now ≡ Some (RollbackTo name)
        → MayAllGoBack part.kinds part.shown.key (id_of (label_of session)) (notes_since now name) part.shown
    back visited count name working present =
        subst (λ (types : List Kind). MayAllGoBack types part.shown.key (id_of (label_of session)) (notes_since now name) part.shown) (sym types_are)
        (all_go_back setting kinds state parts sessions number session now one.current visited count name table chunk part.shown back_laws
        (record {
          shown = record {
            kept = kept;
            shows = shown.shows;
            below_ids = let low = clock in omega (arith, low);
            labels = have_labels setting state parts sessions kept shown;
          };
          is_open = is_open;
        })
        (sym one.shows.open_shows.phase ∙ working) working chunk_is shown_at)

    near_open : NearOpen session now part
    near_open = record { early = early; under = under; typed = typed_now; visits = visits; back = back }

  near_chunk : NearChunk session part
  near_chunk = record {
    number = chunk;
    needed = need ∙ ap (λ (t : ℕ). Chunk t chunk) (sym chunk_is.table_is);
    wide = wide;
    keyed = keyed;
    falls = falls;
    opened = near_open;
  }

-- what the laws say of the machine's states and of what the engine shows
pub record Laws : Type 0 where
  pub kept : ReachedAreKept
  pub differ : IdsDiffer
  pub there : NeededChunksAreThere
  pub rows : ReachedRowsMeetDemands
  pub keys : ReachedKeysStay
  pub behind : BehindOwnIsTheStart
  pub seen : NotesHaveWhatWasSeen

pub near_chunks : Laws → ChunksAreNear
near_chunks laws setting kinds state parts sessions number session table chunk part shown typed found need part_of =
    let lies = laws.there setting state parts sessions number session table chunk shown found need in
    near_chunk setting kinds state parts sessions number session table chunk part laws.differ shown
    (kept_of laws.kept setting state parts sessions shown) typed found need
    (record { table_below = lies.0; chunk_below = lies.1; found = part_of.found }) part_of.types
    (record {
      rows = laws.rows (is_typed kinds) setting state (begins_typed kinds setting typed) shown.reached;
      keys = laws.keys setting state (tables_fit setting shown.runnable) shown.reached;
      behind = laws.behind;
      seen = laws.seen;
    })
