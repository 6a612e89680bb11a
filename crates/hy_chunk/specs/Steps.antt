-- What is done at one position of a chunk.
use Rattle.std.specs.Prelude.{◌≡◌, ℕ, ◌≤◌, ◌<◌, List, true, false, not, slice_set}
use Rattle.std.specs.List.{prefix_len}
use Rattle.hy_value.specs.declared.Value.{Value}
use Rattle.hy_undo.specs.Places.{Place, is_free}
use Rattle.hy_chunk.specs.Fields.{nth}

-- a first row is there
abbrev pub loaded_place : List Value → Place → Place
loaded_place row place = record place { version = record { row = row; live = true }; used = true }

-- the least position that may take a new row from a watermark on, or how many there are
abbrev pub least_free : ℕ → List Place → ℕ
least_free watermark places = prefix_len (λ place. not (is_free watermark place)) places

-- no position from one up to another may take a new row, from whichever watermark on
abbrev pub NoneFree : List Place → ℕ → ℕ → Type 0
NoneFree places from next = (watermark place : ℕ) → from ≤ place → place < next → is_free watermark (nth places place) ≡ false

-- one position is put there, and the others stay
pub record IsPut (place : ℕ) (does : Place → Place → Type 0) (olds news : List Place) : Type 0 where
  pub others : news ≡ slice_set olds place (nth news place)
  pub here : does (nth olds place) (nth news place)
