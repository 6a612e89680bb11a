-- Visits of a ROLLBACK TO: which notes are gone back on, and what going back on them is to the session.
use Rattle.std.proofs.Common.{◌≡◌, ℕ, zero, suc, ◌+◌, ◌<◌, List, [], ◌∷◌, Option, None, Some, Ok, length, get_or, map, refl, sym, ap, ◌∙◌, subst, arith}
use Rattle.std.specs.Prelude.{filter, option_and_then, slice_get, slice_index_or}
use Rattle.std.specs.Option.{SomeIff, option_map, unwrap_or}
use Rattle.std.proofs.lemmas.List.FromFn.{get_or-map-range_with_len}
use Rattle.std.proofs.lemmas.Option.{slice_get_within}
use Rattle.hy_value.specs.declared.Kind.{Kind}
use Rattle.hy_value.specs.declared.change.Change.{Change}
use Rattle.hy_notes.specs.Notes.{Ascends, is_between}
use Rattle.hy_bound.specs.Savepoints.{Saved, kept_by, newest}
use Rattle.hy_stamp.specs.declared.Label.{Label}
use Rattle.hy_stamp.specs.declared.Viewer.{Viewer}
use Rattle.hy_undo.specs.Places.{Cell}
use Rattle.hy_undo.specs.Chunks.{ChunkData}
use Rattle.hy_undo.specs.Sweeps.{AllWritten}
use Rattle.hy_visit.specs.declared.writing.Writer.{Writer}
use Rattle.hy_visit.specs.Backing.{BackDone, MayAllGoBack, changes_back}
use Rattle.hy_event.specs.declared.SessionData.{SessionData}
use Rattle.hy_event.specs.declared.Open.{Open}
use Rattle.hy_event.specs.declared.SavedNotes.{SavedNotes}
use Rattle.hy_event.specs.Backing.{BackVisit, noted_before, cells_back}
use Rattle.hy_event.specs.Changing.{OnlyPlaces, changes_from}
use Rattle.hy_event.specs.Sessions.{label_of, notes_since, savepoint_of, viewer_of}
use Rattle.hy_event.specs.Turns.{with_notes, with_open}
use Rattle.hy_protocol.specs.declared.Phase.TheVariants.{Working}
use Rattle.hy_protocol.specs.declared.Progress.TheVariants.{Moved}
use Rattle.hy_session.specs.Limits.{IsSavedInOrder}
use Rattle.hy_session.specs.Savepoints.{notes_in_chunk, savepoints}
use Rattle.hy_session.specs.Written.{NotesKept, kept_as, kept_in, kept_with}
use Rattle.hy_session.proofs.OpenSavepoints.{level_is, newest_is, since_newest, since_none}
use Rattle.hy_session.proofs.VisitTurns.{moved_to, takes_visit}
use Rattle.hy_session.proofs.WriteVisits.{IsWriter, levels_after}

-- ---- the notes since the newest savepoint of a name

pub since_level : (name : List ℕ) (names : List (Saved (Unit {0}))) (levels : List (List Change)) (now : Open) (number : ℕ) → length names ≡ length levels
    → savepoints names levels ≡ now.saved → Some number ≡ newest name names → slice_index_or levels number [] ≡ notes_since now name
since_level name names levels now number long saved is =
    sym (since_newest name (savepoints names levels) number (sym (newest_is name names levels long) ∙ sym is) ∙ level_is names levels number long)
    ∙ ap (λ (one : List SavedNotes). unwrap_or (kept_by name (map savepoint_of one)) []) saved

pub since_nothing : (name : List ℕ) (names : List (Saved (Unit {0}))) (levels : List (List Change)) (now : Open) → length names ≡ length levels
    → savepoints names levels ≡ now.saved → None ≡ newest name names → notes_since now name ≡ []
since_nothing name names levels now long saved none =
    ap (λ (one : List SavedNotes). unwrap_or (kept_by name (map savepoint_of one)) []) (sym saved)
    ∙ since_none name (savepoints names levels) (sym (newest_is name names levels long) ∙ sym none)

-- they are in order
since_ascends_at : (saved : List SavedNotes) (number : ℕ) → IsSavedInOrder saved
    → Ascends (unwrap_or (option_map (λ (one : Saved (List Change)). one.was) (slice_get (map savepoint_of saved) number)) [])
since_ascends_at [] number order = tt
since_ascends_at (one ∷ saved) zero order = order.0
since_ascends_at (one ∷ saved) (suc number) order = since_ascends_at saved number order.1

since_ascends_by : (saved : List SavedNotes) (number : Option ℕ) → IsSavedInOrder saved
    → Ascends (unwrap_or (option_map (λ (one : Saved (List Change)). one.was) (option_and_then (slice_get (map savepoint_of saved)) number)) [])
since_ascends_by saved None order = tt
since_ascends_by saved (Some number) order = since_ascends_at saved number order

pub since_ascends : (now : Open) (name : List ℕ) → IsSavedInOrder now.saved → Ascends (notes_since now name)
since_ascends now name order = since_ascends_by now.saved (newest name (map savepoint_of now.saved)) order

-- a sum that fits
pub added : (from count sum : ℕ) (fits : Type 0) (result : Option ℕ) → SomeIff result fits (from + count) → result ≡ Some sum
    → sum ≡ from + count
added from count sum fits (Some x) fit is =
    let same : x ≡ sum = cc in
    omega (arith, fit.1)
added from count sum fits None fit is = cc

-- those of a chunk among them
pub in_chunk : (list level notes : List Change) (table from to : ℕ) (chunk : ChunkData) → list ≡ filter (is_between table from to) level → table ≡ chunk.table
    → from ≡ chunk.first → to ≡ chunk.first + length chunk.places → level ≡ notes → list ≡ notes_in_chunk notes chunk
in_chunk list level notes table from to chunk is tables firsts ends same =
    is
    ∙ (ap (λ (t : ℕ). filter (is_between t from to) level) tables
    ∙ (ap (λ (f : ℕ). filter (is_between chunk.table f to) level) firsts
    ∙ (ap (λ (e : ℕ). filter (is_between chunk.table chunk.first e) level) ends
    ∙ ap (λ (l : List Change). notes_in_chunk l chunk) same)))

-- ---- notes that tell of a chunk what others tell

same_before : (chunk : ChunkData) (since notes : List Change) → cells_back since chunk ≡ cells_back notes chunk → (index : ℕ) → index < length chunk.places
    → noted_before since chunk.table (chunk.first + index) ≡ noted_before notes chunk.table (chunk.first + index)
same_before chunk since notes same index within =
    sym (get_or-map-range_with_len (noted_before since chunk.table) chunk.first (length chunk.places) index (chunk.first + index) None within refl)
    ∙ (ap (λ (cells : List (Option Cell)). get_or cells index None) same
    ∙ get_or-map-range_with_len (noted_before notes chunk.table) chunk.first (length chunk.places) index (chunk.first + index) None within refl)

-- what may go back by the ones may go back by the others
pub may_by_others : (kinds : List Kind) (key : Option ℕ) (id : ℕ) (since notes : List Change) (chunk : ChunkData)
    → cells_back since chunk ≡ cells_back notes chunk → MayAllGoBack kinds key id notes chunk → MayAllGoBack kinds key id since chunk
may_by_others kinds key id since notes chunk same may = λ index place cell there is.
    may index place cell there (sym (same_before chunk since notes same index (slice_get_within chunk.places index place there)) ∙ is)

-- ---- the visit

module _ (session : SessionData) (now gone : Open) (writer : Writer) (visited next : ℕ) (name : List ℕ) (old new : ChunkData) (since notes after : List Change)
    (levels later : List (List Change)) (names : List (Saved (Unit {0}))) where
  -- what the session changes there
  abbrev mine : List Change
  mine = changes_from old.table old.first (viewer_of session now) (cells_back (notes_since now name) old) old.places

  own_changes : IsWriter session now writer → cells_back since old ≡ cells_back (notes_since now name) old → changes_back writer since old ≡ mine
  own_changes is same =
      ap (λ (v : Viewer). changes_from old.table old.first v (cells_back since old) old.places) is.viewer
      ∙ ap (λ (cells : List (Option Cell)). changes_from old.table old.first (viewer_of session now) cells old.places) same

  keeps_own : BackDone writer since old notes levels new after later → changes_back writer since old ≡ mine → notes ≡ now.notes
      → savepoints names levels ≡ now.saved → kept_as names after later ≡ kept_with (kept_in now) mine
  keeps_own did own noted saved =
      ap (λ (n : List Change). kept_as names n later) did.noted
      ∙ (ap (λ (l : List (List Change)). kept_as names (with_notes notes (changes_back writer since old)) l) did.in_each
      ∙ (levels_after (Ok (changes_back writer since old)) names notes levels
      ∙ (ap (λ (changes : List Change). kept_with (kept_as names notes levels) changes) own
      ∙ (ap (λ (n : List Change). kept_with (record { notes = n; saved = savepoints names levels }) mine) noted
      ∙ ap (λ (one : List SavedNotes). kept_with (record { notes = now.notes; saved = one }) mine) saved))))

  own_done : (shown : ChunkData) → shown ≡ old → BackDone writer since shown notes levels new after later
      → BackDone writer since old notes levels new after later
  own_done shown here done = subst (λ (o : ChunkData). BackDone writer since o notes levels new after later) here done

  pub back_so : (shown : ChunkData) → shown ≡ old → BackDone writer since shown notes levels new after later → IsWriter session now writer
      → cells_back since old ≡ cells_back (notes_since now name) old → notes ≡ now.notes → savepoints names levels ≡ now.saved
      → session.now ≡ Some now → next ≡ suc visited → gone ≡ moved_to now (kept_as names after later) (Working next 0)
      → BackVisit session now visited name old Moved (with_open gone session) new
  back_so shown here done is same noted saved opened one went = let did = own_done shown here done in record {
    chunk = subst (λ (cells : List (Option Cell)). OnlyPlaces (AllWritten (viewer_of session now) (label_of session) cells) old new) same
        (subst (λ (v : Viewer). OnlyPlaces (AllWritten v (label_of session) (cells_back since old)) old new) is.viewer
        (subst (λ (l : Label). OnlyPlaces (AllWritten writer.viewer l (cells_back since old)) old new) is.label did.chunk));
    turn = takes_visit session now gone mine (Working (suc visited) 0) opened
        (went ∙ (ap (λ (k : NotesKept). moved_to now k (Working next 0)) (keeps_own did (own_changes is same) noted saved)
        ∙ ap (λ (n : ℕ). moved_to now (kept_with (kept_in now) mine) (Working n 0)) one));
  }
