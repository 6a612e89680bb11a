-- The bits of a mask that lies in words of 64.
use Rattle.std.specs.Prelude.{◌≡◌, ◌≤◌, ◌<◌, ◌+◌, ◌-◌, false, ℕ, ℤ, pos, ◌/◌, ◌%◌, List, Bool, ◌==◌, ◌&&◌, not, nat_lt, map, filter, length, slice_index, slice_index_or}
use Rattle.std.specs.List.{range_with_len}
use Rattle.std.specs.Int.{bit_at}
use Rattle.std.specs.Ordering.{int_cmp}
use Rattle.hy_value.specs.declared.Cmp.{Cmp}
use Rattle.hy_value.specs.Order.{holds_at}

-- whether a bit is set; behind the last word none is
abbrev pub is_bit : List ℕ → ℕ → Bool
is_bit words i = bit_at (slice_index words (i / 64)) (i % 64) == 1

-- whether a comparison holds of a number and another
abbrev pub compares : Cmp → ℤ → ℤ → Bool
compares op right value = holds_at op (int_cmp value right)

-- the first bits, as a list
abbrev pub bits_below : ℕ → List ℕ → List Bool
bits_below count words = map (is_bit words) (range_with_len 0 count)

-- whether the bit of a word is set whose place is so far behind that of its lowest one
abbrev pub is_set_from : ℕ → ℕ → ℕ → Bool
is_set_from word first place = bit_at word (place - first) == 1

-- the places of the bits of a word that are set, ascending, where its lowest bit has a place
unfoldable pub places_of_word : ℕ → ℕ → List ℕ
places_of_word word first = filter (is_set_from word first) (range_with_len first 64)

-- whether a place is from one up to, and without, another, with its bit set in some words and not in others
abbrev pub is_kept : List ℕ → List ℕ → ℕ → ℕ → ℕ → Bool
is_kept words others first end place = (not (nat_lt place first) && nat_lt place end) && (is_bit words place && not (is_bit others place))

-- the places from one up to, and without, another, whose bit is set in some words and not in others, ascending
abbrev pub places_kept : List ℕ → List ℕ → ℕ → ℕ → List ℕ
places_kept words others first end = filter (λ place. is_bit words place && not (is_bit others place)) (range_with_len first (end - first))

-- the same of bits that are listed
abbrev pub places_without : List Bool → List Bool → ℕ → ℕ → List ℕ
places_without bits others first end =
    filter (λ place. slice_index_or bits place false && not (slice_index_or others place false)) (range_with_len first (end - first))

-- the numbers at places
abbrev pub values_at : List ℤ → List ℕ → List ℤ
values_at values places = map (λ place. slice_index_or values place (pos 0)) places

-- so many bits lie in words, with none set behind them
pub record Lies (count : ℕ) (words : List ℕ) : Type 0 where
  pub size : length words ≡ count / 64 + 1
  pub clear : (i : ℕ) → count ≤ i → is_bit words i ≡ false

-- of the bits of a word from one on, this is the lowest that is set
pub record IsLowest (word from bit : ℕ) : Type 0 where
  pub reached : from ≤ bit
  pub within : bit < 64
  pub set : bit_at word bit ≡ 1
  pub passed : (i : ℕ) → from ≤ i → i < bit → bit_at word i ≡ 0
