-- Where a session stands, and which chunks its open transaction wrote.
use Rattle.std.specs.Prelude.{ℕ, suc, ◌+◌, ◌*◌, List, [], ◌∷◌, ◌++◌, Bool, ◌&&◌, ◌==◌, nat_le, nat_lt, Option, map, filter, slice_get, length}
use Rattle.std.specs.List.{list_any, range_with_len}
use Rattle.std.specs.Option.{unwrap_or}
use Rattle.hy_bound.specs.Savepoints.{Saved, kept_by}
use Rattle.hy_bound.specs.declared.Shape.{Shape}
use Rattle.hy_bound.specs.declared.Txn.{Txn}
use Rattle.hy_value.specs.declared.change.Change.{Change}
use Rattle.hy_render.specs.declared.Place.{Place}
use Rattle.hy_stamp.specs.declared.Label.{Label}
use Rattle.hy_stamp.specs.declared.Viewer.{Viewer}
use Rattle.hy_stamp.specs.Times.{id_of}
use Rattle.hy_protocol.specs.Asking.{Layout}
use Rattle.hy_event.specs.declared.SessionData.{SessionData}
use Rattle.hy_event.specs.declared.Open.{Open}
use Rattle.hy_event.specs.declared.SavedNotes.{SavedNotes}
use Rattle.hy_protocol.specs.declared.Phase.{Phase}
use Rattle.hy_protocol.specs.declared.Phase.TheVariants.{Working, Stamping, Undoing}

-- how the tables lie that a session runs on
abbrev pub layout_of : SessionData → Layout
layout_of session = record { shapes = session.shapes; chunks = session.chunks }

-- the transaction of its program that a session is at, if it isn't at its end
abbrev pub txn_at : SessionData → Option Txn
txn_at session = slice_get session.program (length session.done)

-- the label of a session's transaction that is open or comes next
abbrev pub label_of : SessionData → Label
label_of session = record { session = session.number; txn = suc (length session.done) }

-- as whom its open transaction looks at positions
abbrev pub viewer_of : SessionData → Open → Viewer
viewer_of session now = record { id = id_of (label_of session); start = now.start }

abbrev pub place_noted : Change → Place
place_noted note = record { table = note.table; pos = note.pos }

-- the positions that an open transaction wrote: those of its notes, until its entry has them
abbrev pub written_in : Open → Phase → List Place
written_in now (Working visited count) = map place_noted now.notes
written_in now (Stamping visited) = now.wrote
written_in now (Undoing visited cause) = map place_noted now.notes

abbrev pub written : Open → List Place
written now = written_in now now.phase

-- whether a position is one of a chunk
abbrev pub lies_in : SessionData → ℕ → ℕ → Place → Bool
lies_in session table chunk place =
    place.table == table && (nat_le (chunk * session.rows) place.pos && nat_lt place.pos (chunk * session.rows + session.rows))

-- the chunks of a table in which one of these positions lies, ascending
abbrev pub chunks_in_table : SessionData → List Place → ℕ → List (ℕ × ℕ)
chunks_in_table session places table =
    map (λ chunk. (table, chunk)) (filter (λ chunk. list_any (lies_in session table chunk) places) (range_with_len 0 session.chunks))

abbrev pub chunks_from : SessionData → List Place → ℕ → List Shape → List (ℕ × ℕ)
chunks_from session places table [] = []
chunks_from session places table (shape ∷ shapes) = chunks_in_table session places table ++ chunks_from session places (suc table) shapes

-- the chunks in which an open transaction wrote, by table and then chunk
abbrev pub written_chunks : SessionData → Open → List (ℕ × ℕ)
written_chunks session now = chunks_from session (written now) 0 session.shapes

-- a savepoint keeps what was noted since
abbrev pub savepoint_of : SavedNotes → Saved (List Change)
savepoint_of one = record { name = one.name; was = one.since }

-- what an open transaction noted since its newest savepoint of a name; nothing where there is none
abbrev pub notes_since : Open → List ℕ → List Change
notes_since now name = unwrap_or (kept_by name (map savepoint_of now.saved)) []

-- the chunks in which it wrote since, by table and then chunk
abbrev pub chunks_since : SessionData → Open → List ℕ → List (ℕ × ℕ)
chunks_since session now name = chunks_from session (map place_noted (notes_since now name)) 0 session.shapes
