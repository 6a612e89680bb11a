-- Sets of columns by their members.
use Rattle.std.specs.Prelude.{ℕ, ◌+◌, ◌^◌, List, Bool, ◌&&◌, nat_lt, if◌then◌else◌, map, sum, bit_or}
use Rattle.std.specs.List.{range_with_len}
use Rattle.hy_value.specs.declared.ColMask.{ColMask}
use Rattle.hy_bound.specs.Agreement.{is_named}

-- the number of so many bits of which each is set where a test is true of it
unfoldable pub bits_where : ℕ → (ℕ → Bool) → ℕ
bits_where count test = sum (map (λ bit. if test bit then 2 ^ bit else 0) (range_with_len 0 count))

-- the set of the columns below 32 of which a test is true
unfoldable pub columns_where : (ℕ → Bool) → ColMask
columns_where test = record { 0 = bits_where 32 test }

-- of a table whose columns begin at `from` in a joined row and are `width`, the set of those that are named
-- there, by their own numbers
unfoldable pub named_columns : ℕ → ℕ → List ℕ → ColMask
named_columns from width named = columns_where (λ column. nat_lt column width && is_named named (from + column))

-- the columns of two sets together, for functions inside the crate that put more columns into a set
unfoldable pub union : ColMask → ColMask → ColMask
union columns others = record { 0 = bit_or columns.0 others.0 }
