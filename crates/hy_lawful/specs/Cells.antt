-- What stands at each position after the first entries of a commit order, as the printed changes tell.
use Rattle.std.specs.Prelude.{◌≡◌, ℕ, ◌*◌, List, [], ◌∷◌, ◌&&◌, ◌||◌, ◌==◌, IsTrue, is_some, if◌then◌else◌}
use Rattle.std.specs.Prelude.{length, take, slice_index_or, slice_get, map, flat_map}
use Rattle.std.specs.List.{range_with_len}
use Rattle.hy_value.specs.Sorted.{sorted}
use Rattle.hy_bound.specs.Changes.{present}
use Rattle.hy_value.specs.declared.change.Change.{Change}
use Rattle.hy_render.specs.declared.Committed.{Committed as Entry}
use Rattle.hy_meaning.specs.Statement.{Table, Database}
use Rattle.hy_machine.specs.declared.Setting.{Setting}
use Rattle.hy_machine.specs.Tables.{Cell}

-- what stands at a position after these changes: what the last change of it left
abbrev pub after_changes : ℕ → ℕ → Cell → List Change → Cell
after_changes table pos cell [] = cell
after_changes table pos cell (change ∷ changes) =
    after_changes table pos (if change.table == table && change.pos == pos then change.after else cell) changes

-- the first rows stand at the first positions of their table
abbrev pub first_cell : Setting → ℕ → ℕ → Cell
first_cell setting table pos = slice_get (slice_index_or setting.first table []) pos

-- what stands at a position after the entries before this rank
abbrev pub cell_at : Setting → List Entry → ℕ → ℕ → ℕ → Cell
cell_at setting order rank table pos =
    after_changes table pos (first_cell setting table pos) (flat_map (λ (entry : Entry). entry.changes) (take rank order))

-- the rows of a table after the entries before this rank, ascending, and those of all tables
abbrev pub rows_at : Setting → List Entry → ℕ → ℕ → Table
rows_at setting order rank table =
    sorted (present (map (cell_at setting order rank table) (range_with_len 0 (setting.chunks * setting.rows))))

abbrev pub bags_at : Setting → List Entry → ℕ → Database
bags_at setting order rank = map (rows_at setting order rank) (range_with_len 0 (length setting.first))

-- a change of the entry of this rank starts from what stands there, and is not one from nothing to nothing
pub record IsChangeAt (setting : Setting) (order : List Entry) (rank : ℕ) (change : Change) : Type 0 where
  pub before : change.before ≡ cell_at setting order rank change.table change.pos
  pub changes : IsTrue (is_some change.before || is_some change.after)
