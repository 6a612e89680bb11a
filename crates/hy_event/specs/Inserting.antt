-- A visit of an INSERT: it looks for its key in the chunk, or, once it has looked in all, for a free position.
use Rattle.std.specs.Prelude.{◌≡◌, ℕ, ◌+◌, ◌-◌, List, Bool, false, nat_lt, Option, None, Some, MatchBool, length, position}
use Rattle.std.specs.List.{list_any}
use Rattle.std.specs.Option.{option_map}
use Rattle.hy_value.specs.declared.Value.{Value}
use Rattle.hy_value.specs.declared.change.Change.{Change}
use Rattle.hy_bound.specs.declared.Bound.{Bound}
use Rattle.hy_bound.specs.Predicate.{column_of, truth_at}
use Rattle.hy_plan.specs.Reads.{key_is_value}
use Rattle.hy_prune.specs.declared.Cover.{Cover}
use Rattle.hy_prune.specs.Fates.{watermark_of}
use Rattle.hy_stamp.specs.declared.Label.{Label}
use Rattle.hy_stamp.specs.declared.Viewer.{Viewer}
use Rattle.hy_undo.specs.Places.{Place, is_free}
use Rattle.hy_undo.specs.Chunks.{ChunkData, Placed, rows_seen}
use Rattle.hy_event.specs.declared.SessionData.{SessionData}
use Rattle.hy_event.specs.declared.Open.{Open}
use Rattle.hy_protocol.specs.declared.Progress.{Progress}
use Rattle.hy_event.specs.Sessions.{layout_of, label_of, viewer_of}
use Rattle.hy_event.specs.Needs.{checks_of}
use Rattle.hy_protocol.specs.Turns.{Turn}
use Rattle.hy_protocol.specs.Statements.{check_turn as checks_on, place_turn as places_on}
use Rattle.hy_event.specs.Turns.{Takes}
use Rattle.hy_event.specs.Changing.{OnlyPlaces, OnlyAt, PrunesFirst}

-- ---- the key

-- whether a viewer sees a row that has the key of the row to insert; without a key there is none
abbrev pub sees_key : Viewer → List Value → Option ℕ → List Place → Bool
sees_key viewer row None places = false
sees_key viewer row (Some key) places = list_any (truth_at (key_is_value key (column_of row key))) (rows_seen viewer places)

-- a visit of an INSERT that looks for its key
abbrev pub check_turn : SessionData → Open → ℕ → Bound → Bool → Turn Change
check_turn session now = checks_on (layout_of session) (length now.replies)

-- it leaves the chunk as it is
pub record CheckVisit (session : SessionData) (now : Open) (visited : ℕ) (statement : Bound) (row : List Value) (key : Option ℕ)
    (old : ChunkData) (progress : Progress) (after : SessionData) (new : ChunkData) : Type 0 where
  pub chunk : new ≡ old
  pub turn : Takes session (check_turn session now visited statement (sees_key (viewer_of session now) row key old.places)) progress after

-- ---- the position

-- the index of the first position of a chunk that is free by a cover
abbrev pub free_index : Cover → ChunkData → Option ℕ
free_index cover chunk = position (is_free (watermark_of cover)) chunk.places

-- that position
abbrev pub free_position : Cover → ChunkData → Option ℕ
free_position cover chunk = option_map (λ index. chunk.first + index) (free_index cover chunk)

-- a row comes to a position
abbrev pub row_noted : ℕ → List Value → ℕ → Change
row_noted table row pos = record { table = table; pos = pos; before = None; after = Some row }

-- a visit of an INSERT that looks for a free position of a chunk
abbrev pub place_turn : SessionData → Open → ℕ → ℕ → Bound → ℕ → List Value → Option ℕ → Turn Change
place_turn session now visited chunk statement table row =
    places_on (layout_of session) (length now.replies) visited chunk statement table (row_noted table row)

-- what becomes of a chunk: the row comes to the position of this index, if there is one
abbrev pub Comes : Viewer → Label → Cover → List Value → Option ℕ → ChunkData → ChunkData → Type 0
Comes viewer label cover row None old new = new ≡ old
Comes viewer label cover row (Some index) old new = OnlyPlaces (OnlyAt index (Placed viewer label (watermark_of cover) row)) old new

-- the chunk is pruned first
pub record PlaceVisit (session : SessionData) (now : Open) (visited number : ℕ) (statement : Bound) (table : ℕ) (row : List Value)
    (old : ChunkData) (progress : Progress) (after : SessionData) (new : ChunkData) : Type 0 where
  pub between : ChunkData
  pub prunes : PrunesFirst session.prunes now.cover old between
  pub chunk : Comes (viewer_of session now) (label_of session) now.cover row (free_index now.cover between) between new
  pub turn : Takes session (place_turn session now visited number statement table row (free_position now.cover between)) progress after

-- ---- the visit: the checks first

abbrev pub InsertVisit : SessionData → Open → ℕ → Bound → ℕ → List Value → Option ℕ → ChunkData → Progress → SessionData → ChunkData → Type 0
InsertVisit session now visited statement table row key old progress after new =
    MatchBool (nat_lt visited (checks_of session key))
    (CheckVisit session now visited statement row key old progress after new)
    (PlaceVisit session now visited (visited - checks_of session key) statement table row old progress after new)
