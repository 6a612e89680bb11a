-- Who holds a position, whom a write of it is in conflict with, and when it is free for an insert.
use Rattle.std.specs.Prelude.{ℕ, suc, List, [], ◌∷◌, Bool, false, not, ◌&&◌, ◌||◌, ◌==◌, Option, None, Some, is_some, drop, if◌then◌else◌}
use Rattle.std.specs.List.{list_any}
use Rattle.std.specs.Option.{option_or}
use Rattle.hy_stamp.specs.declared.Label.{Label}
use Rattle.hy_machine.specs.declared.Setting.{Setting}
use Rattle.hy_protocol.specs.declared.Phase.{Phase}
use Rattle.hy_protocol.specs.declared.Phase.TheVariants.{Working, Stamping, Undoing}
use Rattle.hy_machine.specs.States.{State, Session, Open, Begun}
use Rattle.hy_machine.specs.Tables.{Entry, Pair, chunk_of}
use Rattle.hy_machine.specs.Positions.{item_at, last_some}
use Rattle.hy_machine.specs.Writes.{written_chunks, is_among}
use Rattle.hy_machine.specs.Sessions.{label_of, snapshot}

-- how many of the chunks that a transaction wrote are undone
abbrev pub undone : Phase → ℕ
undone (Working visited count) = 0
undone (Stamping visited) = 0
undone (Undoing visited cause) = visited

-- whether an open transaction holds a position: it wrote it, and has not undone its chunk
abbrev pub holds : Setting → ℕ → ℕ → Option Open → Bool
holds setting table pos None = false
holds setting table pos (Some current) =
    is_some (item_at current.begun.own table pos)
    && is_among (drop (undone current.phase) (written_chunks setting current.begun.own)) table (chunk_of setting pos)

-- the first session but this one that holds a position, the first of these having the number `first`
abbrev pub holder_from : Setting → ℕ → ℕ → ℕ → ℕ → List Session → Option Label
holder_from setting number table pos first [] = None
holder_from setting number table pos first (session ∷ sessions) =
    if not (first == number) && holds setting table pos session.now
    then Some (label_of first session)
    else holder_from setting number table pos (suc first) sessions

-- whether a pair is a change: a row is there before it or after it
abbrev pub changes_row : Option Pair → Bool
changes_row None = false
changes_row (Some pair) = is_some pair.before || is_some pair.after

-- the label of an entry that changes a position
abbrev pub changer_at : ℕ → ℕ → Entry → Option Label
changer_at table pos entry = if changes_row (item_at entry.cells table pos) then Some entry.label else None

-- whom a write of a position by a session's transaction of this prefix is in conflict with: another
-- transaction that holds it, or else the last one that changed it since
abbrev pub opponent : Setting → State → ℕ → ℕ → ℕ → ℕ → Option Label
opponent setting state number prefix table pos =
    option_or (holder_from setting number table pos 0 state.sessions) (last_some (changer_at table pos) (drop prefix state.order))

-- whether some open transaction holds a position
abbrev pub is_held : Setting → State → ℕ → ℕ → Bool
is_held setting state table pos = list_any (λ (session : Session). holds setting table pos session.now) state.sessions

-- whether an entry writes a position
abbrev pub has_pair : ℕ → ℕ → Entry → Bool
has_pair table pos entry = is_some (item_at entry.cells table pos)

-- a position is free for a transaction where nobody holds it, the tables of its watermark have no row there, and
-- no entry from the watermark on wrote it
abbrev pub is_free : Setting → State → Begun → ℕ → ℕ → Bool
is_free setting state begun table pos =
    not (is_held setting state table pos)
    && not (is_some (item_at (snapshot setting state begun.low) table pos))
    && not (list_any (has_pair table pos) (drop begun.low state.order))
