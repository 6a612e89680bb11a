-- A visit in which a transaction goes back to a savepoint is the machine's turn: nobody is in the way where it wrote.
use Rattle.std.proofs.Common.{◌≡◌, ℕ, zero, suc, ◌+◌, ◌*◌, List, [], ◌∷◌, ◌++◌, length, map, Option, None, Some, Bool, true, false, is_some, cond}
use Rattle.std.proofs.Common.{refl, sym, ap, ◌∙◌, subst, arith, inl}
use Rattle.std.specs.Prelude.{slice_get, nat_lt, ◌==◌}
use Rattle.std.specs.List.{flat_map, range_with_len}
use Rattle.std.specs.Option.{option_map}
use Rattle.std.proofs.lemmas.Bool.{eqb-true, eq-eqb, or_left}
use Rattle.std.proofs.lemmas.Option.{same_Some}
use Rattle.std.proofs.lemmas.List.{length-map}
use Rattle.hy_stamp.specs.declared.Label.{Label}
use Rattle.hy_stamp.specs.declared.Stamp.{Stamp}
use Rattle.hy_stamp.specs.declared.Viewer.{Viewer}
use Rattle.hy_stamp.specs.Times.{id_of}
use Rattle.hy_value.specs.declared.change.Change.{Change}
use Rattle.hy_chain.specs.Chains.{newest, rival, rival_by}
use Rattle.hy_bound.specs.declared.Bound.TheVariants.{RollbackTo}
use Rattle.hy_notes.specs.Notes.{note_at}
use Rattle.hy_undo.specs.Places.{Place, Cell}
use Rattle.hy_undo.specs.Chunks.{ChunkData, is_own}
use Rattle.hy_undo.specs.Sweeps.{AllWritten}
use Rattle.hy_journal.specs.declared.CoreData.{CoreData}
use Rattle.hy_event.specs.declared.SessionData.{SessionData}
use Rattle.hy_event.specs.declared.Open.{Open}
use Rattle.hy_event.specs.Sessions.{label_of, viewer_of, notes_since}
use Rattle.hy_event.specs.Backing.{BackVisit, noted_before, cells_back}
use Rattle.hy_event.specs.Changing.{OnlyPlaces, changes_from}
use Rattle.hy_event.specs.Events.{Part, ChunkPart}
use Rattle.hy_event.specs.Turns.{Takes}
use Rattle.hy_protocol.specs.declared.Phase.TheVariants as phase
use Rattle.hy_protocol.specs.declared.Progress.{Progress}
use Rattle.hy_protocol.specs.Turns.{Visits, is_stamping}
use Rattle.hy_machine.specs.declared.Setting.{Setting}
use Rattle.hy_machine.specs.States.{State, Open as MachineOpen}
use Rattle.hy_machine.specs.Positions.{item_at}
use Rattle.hy_machine.specs.Tables.{Own, Tables, over}
use Rattle.hy_machine.specs.Writes.{Write}
use Rattle.hy_machine.specs.Saving.{own_at, own_since, written_since, taken_back}
use Rattle.hy_machine.specs.Sessions.{snapshot, pair_of, session_at, txn_at}
use Rattle.hy_machine.specs.Holding.{holds}
use Rattle.hy_machine.specs.Visits.{write_of}
use Rattle.hy_refinement.specs.Numbers.{noted}
use Rattle.hy_refinement.specs.Parts.{ChunkIs}
use Rattle.hy_refinement.specs.Sessions.{NotesHave, GatheredBy, OpenShows, statement_at}
use Rattle.hy_refinement.specs.Taken.{AtChunk, AtStatement, IsTaken, chunk_number}
use Rattle.hy_refinement.specs.Visits.{BacksAreTaken}
use Rattle.hy_refinement.specs.Frames.{ChunkShows}
use Rattle.hy_refinement.proofs.RivalTops.{open_shown}
use Rattle.hy_refinement.proofs.PlacesWork.{at_work_in}
use Rattle.hy_refinement.proofs.Since.{since_shown}
use Rattle.hy_refinement.proofs.Trails.{since_own}
use Rattle.hy_refinement.proofs.WritesOwn.{writes_from}
use Rattle.hy_refinement.proofs.WritesViews.{holds_own, used_where_held}
use Rattle.hy_refinement.proofs.WritesChunk.{AtWork, AreQuiet, fits, trail_fits}
use Rattle.hy_refinement.proofs.WritesShown.{Laws, visit_taken}

-- ---- what is written

range_long : (first n : ℕ) → length (range_with_len first n) ≡ n
range_long first zero = refl
range_long first (suc n) = ap suc (range_long (first + 1) n)

range_at : (first n i : ℕ) (pos : ℕ) → slice_get (range_with_len first n) i ≡ Some pos → pos ≡ first + i
range_at first zero i pos e = absurd cc
range_at first (suc n) zero pos e = let same : first ≡ pos = same_Some first pos e in omega (arith, same)
range_at first (suc n) (suc i) pos e = let same = range_at (first + 1) n i pos e in omega (arith, same)

-- the number and the cell at an index of cells that positions give
mapped_at : (f : ℕ → Option Cell) (xs : List ℕ) (i : ℕ) (cell : Option Cell) → slice_get (map f xs) i ≡ Some cell
    → (x : ℕ) × ((slice_get xs i ≡ Some x) × (f x ≡ cell))
mapped_at f [] i cell e = absurd cc
mapped_at f (x ∷ xs) zero cell e = (x, (refl, same_Some (f x) cell e))
mapped_at f (x ∷ xs) (suc i) cell e = mapped_at f xs i cell e

-- the writes of cells that positions give are those of each position
same_writes : (f : ℕ → Option Cell) (table first n : ℕ)
    → writes_from table first (map f (range_with_len first n)) ≡ flat_map (λ pos. write_of table pos (f pos)) (range_with_len first n)
same_writes f table first zero = refl
same_writes f table first (suc n) =
    ap (λ (writes : List Write). write_of table first (f first) ++ writes)
    (let s : suc first ≡ first + 1 = omega arith in
    ap (λ (k : ℕ). writes_from table k (map f (range_with_len (first + 1) n))) s ∙ same_writes f table (first + 1) n)

-- the row before that is noted is the one that was seen
before_seen : (seen : Cell) (own : Option Cell) → option_map (λ pair. pair.0) (noted (pair_of seen own)) ≡ option_map (λ mine. seen) own
before_seen seen None = refl
before_seen seen (Some cell) = refl

some_before : (notes : Option (Cell × Cell)) (cell : Cell) → option_map (λ pair. pair.0) notes ≡ Some cell → is_some notes ≡ true
some_before None cell e = absurd cc
some_before (Some pair) cell e = refl

noted_own : (seen : Cell) (own : Option Cell) → is_some (noted (pair_of seen own)) ≡ true → is_some own ≡ true
noted_own seen None e = e
noted_own seen (Some cell) e = refl

-- ---- who is in the way

-- nobody is where the newest mark is one's own
own_no_rival : (viewer : Viewer) (top : Option Stamp) → is_own viewer.id top ≡ true → rival_by viewer top ≡ None
own_no_rival viewer None own = refl
own_no_rival viewer (Some stamp) own =
    ap (λ (b : Bool). cond b None (Some stamp.owner)) (or_left (stamp.mark == viewer.id) (nat_lt stamp.mark viewer.start) own)

pub backs_are : Laws → BacksAreTaken
backs_are laws setting state parts sessions number session now current table chunk old visited count name progress after new at stands here visit =
    subst (λ (writes : List Write). IsTaken setting state parts sessions number (Visits writes (phase.Working (suc visited) 0))
    (chunk_number setting table chunk) progress after (ChunkPart new)) writes_same
    (visit_taken laws setting state parts sessions number session now current table chunk old at work old new cells chunk_is chunk_shows long quiet only
    (suc visited) 0 0 progress after refl gathered takes)
  where
    core : CoreData
    core = at.at_open.shown.shows.core

    work : AtWork setting state core sessions number session now current table chunk
    work = at_work_in laws.one_id setting state parts sessions number session now current table chunk old visited count at stands.phase_is

    shows_open : OpenShows setting state core number now current
    shows_open = open_shown setting state core sessions number session now current at.at_open.shown.shows.sessions_show at.at_open.is_open

    is_working : current.phase ≡ phase.Working visited count
    is_working = sym shows_open.open_shows.phase ∙ stands.phase_is

    chunk_is : ChunkIs setting table chunk old
    chunk_is = (laws.visited setting state parts sessions number session now current table chunk old at).0

    chunk_shows : ChunkShows setting state core sessions table chunk old
    chunk_shows = (laws.visited setting state parts sessions number session now current table chunk old at).1

    notes : List Change
    notes = notes_since now name

    seen : Tables
    seen = over (snapshot setting state current.begun.prefix) (own_at setting current.begun name)

    since : Own
    since = own_since setting current.begun name

    have : NotesHave seen since notes
    have = since_shown setting state parts sessions number session now current name at.at_open (ap is_stamping is_working)

    first : ℕ
    first = chunk * setting.rows

    cells : List (Option Cell)
    cells = map (noted_before notes table) (range_with_len first setting.rows)

    same_cells : cells_back notes old ≡ cells
    same_cells =
        ap (λ (n : ℕ). map (noted_before notes n) (range_with_len old.first (length old.places))) chunk_is.table_is
        ∙ (ap (λ (n : ℕ). map (noted_before notes table) (range_with_len n (length old.places))) chunk_is.first
        ∙ ap (λ (n : ℕ). map (noted_before notes table) (range_with_len first n)) chunk_is.places)

    long : length cells ≡ length old.places
    long = length-map (range_with_len first setting.rows) (noted_before notes table) ∙ (range_long first setting.rows ∙ sym chunk_is.places)

    only : OnlyPlaces (AllWritten (viewer_of session now) (label_of session) cells) old new
    only = subst (λ (cells : List (Option Cell)). OnlyPlaces (AllWritten (viewer_of session now) (label_of session) cells) old new) same_cells visit.chunk

    takes : Takes session (Visits (changes_from table first (viewer_of session now) cells old.places) (phase.Working (suc visited) 0)) progress after
    takes =
        subst (λ (cells : List (Option Cell)). Takes session (Visits (changes_from table first (viewer_of session now) cells old.places)
        (phase.Working (suc visited) 0)) progress after) same_cells
        (subst (λ (n : ℕ). Takes session (Visits (changes_from table n (viewer_of session now) (cells_back notes old) old.places)
        (phase.Working (suc visited) 0)) progress after) chunk_is.first
        (subst (λ (n : ℕ). Takes session (Visits (changes_from n old.first (viewer_of session now) (cells_back notes old) old.places)
        (phase.Working (suc visited) 0)) progress after) chunk_is.table_is visit.turn))

    -- what was noted since the savepoint it holds
    own_there : (pos : ℕ) → is_some (note_at notes table pos) ≡ true → holds setting table pos (Some current) ≡ true
    own_there pos some =
        holds_own setting current table pos (fits setting state core sessions number session now current table chunk work) work.working
        ∙ since_own setting current.begun name (trail_fits setting state core sessions number session now current table chunk work) table pos
        (noted_own (item_at seen table pos) (item_at since table pos) (sym (ap is_some (have.each table pos)) ∙ some))

    quiet : AreQuiet setting state core sessions number session now current table chunk work cells old.places
    quiet i place cell was is =
        let one = mapped_at (noted_before notes table) (range_with_len first setting.rows) i (Some cell) is in
        let pos = range_at first setting.rows i one.0 one.1.0 in
        let some : is_some (note_at notes table (first + i)) ≡ true =
        subst (λ (n : ℕ). is_some (note_at notes table n) ≡ true) pos (some_before (note_at notes table one.0) cell one.1.1) in
        let held = own_there (first + i) some in
        let head = (chunk_shows i place was).own_heads number session now current work.is_open (inl work.unmarked) in
        record {
          no_rival = own_no_rival (viewer_of session now) (newest place.chain) (head.holds_it ∙ held);
          used = used_where_held setting state number current table (first + i) work.is_open.open_there held;
        }

    gathered : (tables : Tables) (visits : ℕ) → GatheredBy setting tables visits now.gathered
        (statement_at (txn_at setting number (session_at state number)) (length now.replies))
    gathered tables visits =
        subst (GatheredBy setting tables visits now.gathered) (sym stands.statement_is)
        (subst (GatheredBy setting (over (snapshot setting state current.begun.prefix) current.begun.own) visited now.gathered) stands.statement_is
        (shows_open.gathered_shows visited count stands.phase_is))

    writes_same : writes_from table first cells ≡ taken_back setting state current.begun name table chunk
    writes_same =
        same_writes (noted_before notes table) table first setting.rows
        ∙ ap (λ (f : ℕ → Option Cell). flat_map (λ pos. write_of table pos (f pos)) (range_with_len first setting.rows))
        (λ i pos. (ap (λ (o : Option (Cell × Cell)). option_map (λ pair. pair.0) o) (have.each table pos)
        ∙ before_seen (item_at seen table pos) (item_at since table pos)) i)
