-- Notes of a transaction, by table and then position.
use Rattle.std.specs.Prelude.{◌≡◌, ℕ, List, [], ◌∷◌, map, Bool, ◌&&◌, ◌||◌, ◌==◌, nat_le, nat_lt, Option, None, Some, is_some, if◌then◌else◌}
use Rattle.std.specs.List.{AllByRecursion}
use Rattle.std.specs.Ordering.{ordering_then, nat_cmp, is_lt, is_eq}
use Rattle.std.specs.declared.cmp.Ordering.{Ordering}
use Rattle.std.specs.declared.cmp.Ordering.TheVariants.{Less}
use Rattle.hy_value.specs.declared.Value.{Value}
use Rattle.hy_value.specs.declared.change.Change.{Change}
use Rattle.hy_notes.specs.declared.NotedPlace.{NotedPlace}

-- a row that is there or not
abbrev pub Cell : Type 0
Cell = Option (List Value)

-- how a note stands to a position of a table: by the table, and then by the position
abbrev pub order_of : Change → ℕ → ℕ → Ordering
order_of note table pos = ordering_then (nat_cmp note.table table) (nat_cmp note.pos pos)

-- each is of a position before those of all behind it
abbrev pub Ascends : List Change → Type 0
Ascends [] = Unit {0}
Ascends (note ∷ notes) = AllByRecursion (λ later. order_of note later.table later.pos ≡ Less) notes × Ascends notes

abbrev pub below : ℕ → ℕ → Change → Bool
below table pos note = is_lt (order_of note table pos)

-- the first note of a position with another row after it
abbrev pub with_after : Change → Cell → Change
with_after note after = record note { after = after }

-- notes with one more: at a position that is noted the row before stays, and the row after is the new one
abbrev pub with_note : Change → List Change → List Change
with_note new [] = new ∷ []
with_note new (note ∷ notes) =
    if is_lt (order_of note new.table new.pos) then note ∷ with_note new notes
    else if is_eq (order_of note new.table new.pos) then with_after note new.after ∷ notes
    else new ∷ note ∷ notes

-- each of these lists of notes with more changes, one after another
abbrev pub noted_in_all : List Change → List (List Change) → List (List Change)
noted_in_all [] levels = levels
noted_in_all (change ∷ changes) levels = noted_in_all changes (map (with_note change) levels)

-- what a note tells of its position: the row before and the row after
abbrev pub told_by : Change → Cell × Cell
told_by note = (note.before, note.after)

-- what is noted at a position: the row before and the row after
abbrev pub note_at : List Change → ℕ → ℕ → Option (Cell × Cell)
note_at [] table pos = None
note_at (note ∷ notes) table pos =
    if note.table == table && note.pos == pos then Some (note.before, note.after) else note_at notes table pos

-- a note of a table at a position from this one on, up to that one
abbrev pub is_between : ℕ → ℕ → ℕ → Change → Bool
is_between table from to note = note.table == table && (nat_le from note.pos && nat_lt note.pos to)

-- a row was there or is there
abbrev pub is_change : Change → Bool
is_change note = is_some note.before || is_some note.after

abbrev pub place_of : Change → NotedPlace
place_of note = record { table = note.table; pos = note.pos }
