-- What is put back at a position that a viewer has written.
use Rattle.std.specs.Prelude.{◌≡◌, ℕ, ◌-◌, List, Option, Some, true, false}
use Rattle.hy_value.specs.declared.Value.{Value}
use Rattle.hy_value.specs.declared.Kind.{Kind}
use Rattle.hy_value.specs.declared.change.Change.{Change}
use Rattle.hy_stamp.specs.declared.Viewer.{Viewer}
use Rattle.hy_chain.specs.Chains.{before_newest, newest}
use Rattle.hy_undo.specs.declared.version.Version.{Version}
use Rattle.hy_undo.specs.Images.{before}
use Rattle.hy_undo.specs.Places.{Cell, Place, cell_of, sees}
use Rattle.hy_undo.specs.Chunks.{ChunkData, is_own}
use Rattle.hy_chunk.specs.Fields.{nth}
use Rattle.hy_chunk.specs.Keyed.{SameKey}
use Rattle.hy_chunk.specs.Sound.{FitsRow}

-- what stood at a position before its newest record
abbrev pub behind : Place → Version
behind place = before_newest before place.version place.chain

-- a viewer may put this cell back at a position: the newest record there is its own, and a row has the columns' types,
-- and the key of the row that stood there before that record, where one did
pub record MayGoBack (kinds : List Kind) (key : Option ℕ) (id : ℕ) (cell : Cell) (place : Place) : Type 0 where
  pub own : is_own id (newest place.chain) ≡ true
  pub fits : (row : List Value) → cell ≡ Some row → FitsRow kinds row
  pub same_key : (row was : List Value) → cell ≡ Some row → cell_of (behind place) ≡ Some was → SameKey key row was

-- no row is in place any more
abbrev pub emptied_place : Place → Place
emptied_place place = record place { version = record place.version { live = false } }

-- what is changed at the position of a note of a chunk where the row before comes back: from what the viewer sees there
abbrev pub change_back : Viewer → ChunkData → Change → Change
change_back viewer chunk note = record {
  table = chunk.table;
  pos = note.pos;
  before = sees viewer (nth chunk.places (note.pos - chunk.first));
  after = note.before;
}
