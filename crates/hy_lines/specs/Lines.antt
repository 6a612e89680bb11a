-- What lines are: the pieces of bytes that line feeds end, and what stands behind the last of these.
use Rattle.std.specs.Prelude.{◌≡◌, ℕ, ◌==◌, Bool, false, List, [], ◌∷◌, ◌++◌}
use Rattle.std.specs.List.{list_any, slice_split, flat_map, AllByRecursion}

abbrev pub is_feed : ℕ → Bool
is_feed byte = byte == 10

-- a line feed is among the bytes
abbrev pub has_feed : List ℕ → Bool
has_feed bytes = list_any is_feed bytes

-- what stands before the first line feed, between each and the next, and behind the last
abbrev pub pieces_of : List ℕ → List (List ℕ)
pieces_of bytes = slice_split is_feed bytes

-- the pieces that a line feed ends: all but the last
abbrev pub ended_pieces : List (List ℕ) → List (List ℕ)
ended_pieces [] = []
ended_pieces (last ∷ []) = []
ended_pieces (piece ∷ next ∷ pieces) = piece ∷ ended_pieces (next ∷ pieces)

-- a piece, where it isn't empty
abbrev pub filled : List ℕ → List (List ℕ)
filled [] = []
filled (byte ∷ bytes) = (byte ∷ bytes) ∷ []

-- the same, and the last where it isn't empty
abbrev pub filled_pieces : List (List ℕ) → List (List ℕ)
filled_pieces [] = []
filled_pieces (last ∷ []) = filled last
filled_pieces (piece ∷ next ∷ pieces) = piece ∷ filled_pieces (next ∷ pieces)

-- the lines of bytes that line feeds end
abbrev pub whole_lines_in : List ℕ → List (List ℕ)
whole_lines_in bytes = ended_pieces (pieces_of bytes)

-- the lines of bytes, where nothing comes behind them: what no line feed ends is one where it isn't empty
abbrev pub lines_in : List ℕ → List (List ℕ)
lines_in bytes = filled_pieces (pieces_of bytes)

-- a line with its line feed
abbrev pub with_feed : List ℕ → List ℕ
with_feed line = line ++ 10 ∷ []

-- the bytes are these lines, each with its line feed, and then those that are left
pub record AreLines (bytes : List ℕ) (lines : List (List ℕ)) (left : List ℕ) : Type 0 where
  pub whole : bytes ≡ flat_map with_feed lines ++ left
  pub each : AllByRecursion (λ line. has_feed line ≡ false) lines
