-- A colon stands within the line.
use Rattle.std.specs.Prelude.{slice_get}
use Rattle.std.proofs.Common.{◌≡◌, ℕ, ◌<◌, true, List, Option, Some, None, length, refl}
use Rattle.std.proofs.lemmas.Option.{slice_get_within}
use Rattle.hy_serving.specs.Lines.{has_colon}

found_within : (line : List ℕ) (at : ℕ) (found : Option ℕ) → slice_get line at ≡ found → has_colon found ≡ true → at < length line
found_within line at None is colon = absurd cc
found_within line at (Some byte) is colon = slice_get_within line at byte is

pub colon_within : (line : List ℕ) (at : ℕ) → has_colon (slice_get line at) ≡ true → at < length line
colon_within line at colon = found_within line at (slice_get line at) refl colon
