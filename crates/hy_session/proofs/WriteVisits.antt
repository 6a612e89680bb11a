-- What a visit did to a chunk, as a visit of the session.
use Rattle.std.proofs.Common.{◌≡◌, ℕ, List, [], ◌∷◌, Option, Result, Ok, Err, Bool, map, refl, ap, sym, ◌∙◌, subst}
use Rattle.hy_value.specs.declared.Value.{Value}
use Rattle.hy_bound.specs.declared.Assign.{Assign}
use Rattle.hy_bound.specs.Condition.{Condition}
use Rattle.hy_value.specs.declared.change.Change.{Change}
use Rattle.hy_prune.specs.declared.Cover.{Cover}
use Rattle.hy_stamp.specs.declared.Label.{Label}
use Rattle.hy_stamp.specs.declared.Viewer.{Viewer}
use Rattle.hy_stamp.specs.Times.{id_of}
use Rattle.hy_undo.specs.declared.refusal.Refusal.{Refusal}
use Rattle.hy_undo.specs.Chunks.{ChunkData}
use Rattle.hy_visit.specs.declared.writing.Writer.{Writer}
use Rattle.hy_visit.specs.Placing.{PlaceDone, change_at}
use Rattle.hy_visit.specs.Writing.{WriteDone, counted, noted_after}
use Rattle.hy_event.specs.declared.SessionData.{SessionData}
use Rattle.hy_event.specs.declared.Open.{Open}
use Rattle.hy_event.specs.Changing.{PrunesFirst}
use Rattle.hy_event.specs.Inserting.{Comes, free_index, free_position}
use Rattle.hy_event.specs.Sessions.{label_of, viewer_of}
use Rattle.hy_event.specs.Turns.{with_notes}
use Rattle.hy_event.specs.Writing.{Becomes, cells_by, changes_by}
use Rattle.hy_bound.specs.Savepoints.{Saved}
use Rattle.hy_event.specs.declared.SavedNotes.{SavedNotes}
use Rattle.hy_session.specs.Savepoints.{savepoints}
use Rattle.hy_session.specs.Written.{Came, NotesKept, Wrote, kept_as, kept_with, kept_after}
use Rattle.hy_session.proofs.OpenSavepoints.{all_noted, in_each}

-- pruned as a session prunes, by the cover of its open transaction
pub prunes_so : (session : SessionData) (prunes : Bool) (cover own : Cover) (old new : ChunkData) → prunes ≡ session.prunes → cover ≡ own
    → PrunesFirst prunes cover old new → PrunesFirst session.prunes own old new
prunes_so session prunes cover own old new same covers did =
    subst (λ (p : Bool). PrunesFirst p own old new) same (subst (λ (c : Cover). PrunesFirst prunes c old new) covers did)

-- as whom a visitor looks
abbrev pub viewer_by : ℕ → ℕ → Viewer
viewer_by id start = record { id = id; start = start }

-- that is as whom the session does
pub viewer_so : (session : SessionData) (now : Open) (id start : ℕ) → id ≡ id_of (label_of session) → now.start ≡ start
    → viewer_by id start ≡ viewer_of session now
viewer_so session now id start ids starts = ap (λ (n : ℕ). viewer_by n start) ids ∙ ap (viewer_by (id_of (label_of session))) (sym starts)

-- a writer is one of a session
pub record IsWriter (session : SessionData) (now : Open) (writer : Writer) : Type 0 where
  pub viewer : writer.viewer ≡ viewer_of session now
  pub label : writer.label ≡ label_of session
  pub cover : writer.cover.now ≡ now.cover
  pub prunes : writer.prunes ≡ session.prunes

-- notes of changes in all levels are kept with the savepoints of their names
pub levels_after : (changes : Result (List Change) Refusal) (names : List (Saved (Unit {0}))) (notes : List Change) (levels : List (List Change))
    → kept_as names (noted_after notes changes) (map (λ since. noted_after since changes) levels) ≡ kept_after (kept_as names notes levels) changes
levels_after (Err refusal) names notes levels = ap (kept_as names notes) (same levels)
  where
    same : (levels : List (List Change)) → map (λ since. since) levels ≡ levels
    same [] = refl
    same (since ∷ levels) = ap (λ (others : List (List Change)). since ∷ others) (same levels)
levels_after (Ok changes) names notes levels =
    ap (λ (saved : List SavedNotes). let kept : NotesKept = record { notes = with_notes notes changes; saved = saved } in kept)
    (ap (savepoints names) (in_each changes levels) ∙ all_noted changes names levels)

module _ (session : SessionData) (now : Open) (writer : Writer) (table : ℕ) (old new : ChunkData) (notes after : List Change)
    (levels later : List (List Change)) (names : List (Saved (Unit {0}))) where
  -- an UPDATE or a DELETE
  pub wrote_so : (sets : Option (List Assign)) (pred : Condition) (answer : Result ℕ Refusal)
      → WriteDone writer sets pred old notes levels answer new after later → IsWriter session now writer → old.table ≡ table → notes ≡ now.notes
      → savepoints names levels ≡ now.saved
      → Wrote session now table sets pred old answer new (kept_as names after later)
  wrote_so sets pred answer did is here noted saved = record {
    between = did.between;
    prunes = prunes_so session writer.prunes writer.cover.now now.cover old did.between is.prunes is.cover did.prunes;
    chunk = subst (λ (v : Viewer). Becomes v (label_of session) (cells_by sets pred v did.between) did.between new) is.viewer
        (subst (λ (l : Label). Becomes writer.viewer l (cells_by sets pred writer.viewer did.between) did.between new) is.label did.chunk);
    told = did.told ∙ (ap (λ (v : Viewer). counted (changes_by old.table v did.between (cells_by sets pred v did.between))) is.viewer
        ∙ ap (λ (t : ℕ). counted (changes_by t (viewer_of session now) did.between (cells_by sets pred (viewer_of session now) did.between))) here);
    noted =
        ap (λ (n : List Change). kept_as names n later) did.noted
        ∙ (ap (λ (l : List (List Change)). kept_as names (noted_after notes done) l) did.in_each
        ∙ (levels_after done names notes levels
        ∙ (ap (λ (r : Result (List Change) Refusal). kept_after (kept_as names notes levels) r) own
        ∙ (ap (λ (n : List Change). kept_after (record { notes = n; saved = savepoints names levels }) mine) noted
        ∙ ap (λ (one : List SavedNotes). kept_after (record { notes = now.notes; saved = one }) mine) saved))));
  }
    where
      done : Result (List Change) Refusal
      done = changes_by old.table writer.viewer did.between (cells_by sets pred writer.viewer did.between)

      mine : Result (List Change) Refusal
      mine = changes_by table (viewer_of session now) did.between (cells_by sets pred (viewer_of session now) did.between)

      own : done ≡ mine
      own =
          ap (λ (v : Viewer). changes_by old.table v did.between (cells_by sets pred v did.between)) is.viewer
          ∙ ap (λ (t : ℕ). changes_by t (viewer_of session now) did.between (cells_by sets pred (viewer_of session now) did.between)) here

  -- an INSERT that looked for a position
  pub came_so : (row : List Value) (answer : Option ℕ)
      → PlaceDone writer row old notes levels answer new after later → IsWriter session now writer → old.table ≡ table → notes ≡ now.notes
      → savepoints names levels ≡ now.saved
      → Came session now table row old answer new (kept_as names after later)
  came_so row answer did is here noted saved = record {
    between = did.between;
    prunes = prunes_so session writer.prunes writer.cover.now now.cover old did.between is.prunes is.cover did.prunes;
    chunk = subst (λ (c : Cover). Comes (viewer_of session now) (label_of session) c row (free_index c did.between) did.between new) is.cover
        (subst (λ (v : Viewer). Comes v (label_of session) writer.cover.now row (free_index writer.cover.now did.between) did.between new) is.viewer
        (subst (λ (l : Label). Comes writer.viewer l writer.cover.now row (free_index writer.cover.now did.between) did.between new) is.label did.chunk));
    told = did.told ∙ ap (λ (c : Cover). free_position c did.between) is.cover;
    noted =
        ap (λ (n : List Change). kept_as names n later) did.noted
        ∙ (ap (λ (l : List (List Change)). kept_as names (with_notes notes (change_at old.table row answer)) l) did.in_each
        ∙ (levels_after (Ok (change_at old.table row answer)) names notes levels
        ∙ (ap (λ (t : ℕ). kept_with (kept_as names notes levels) (change_at t row answer)) here
        ∙ (ap (λ (n : List Change). kept_with (record { notes = n; saved = savepoints names levels }) (change_at table row answer)) noted
        ∙ ap (λ (one : List SavedNotes). kept_with (record { notes = now.notes; saved = one }) (change_at table row answer)) saved))));
  }
