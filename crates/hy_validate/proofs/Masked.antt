-- The columns in which values are sought, when one more record comes.
use Rattle.std.proofs.Common.{◌≡◌, ℕ, ◌<◌, ◌^◌, List, [], ◌∷◌, ◌++◌, ap, ◌∙◌, arith}
use Rattle.std.specs.Prelude.{Bool, true, false, All, ◌==◌, nat_lt, bit_or, if◌then◌else◌}
use Rattle.std.specs.Int.{bit_at}
use Rattle.std.proofs.lemmas.Bool.{and_parts, and_from, eqb-true, eq-eqb, lt-ltb}
use Rattle.std.proofs.lemmas.List.Elements.{All-push, All-weaker}
use Rattle.std.proofs.lemmas.Nat.Bits.{bit_at_or, bit_at-lt, bit_at-pow_same}
use Rattle.hy_value.specs.declared.ColMask.{ColMask}
use Rattle.hy_value.specs.Columns.{has_column, with}
use Rattle.hy_validate.specs.declared.keys.Key.{Key}
use Rattle.hy_validate.specs.declared.keys.Keyed.{Keyed}
use Rattle.hy_validate.specs.Keys.{keyed}

abbrev with_bit : ColMask → ℕ → ColMask
with_bit mask column = record { 0 = bit_or mask.0 (2 ^ column) }

keeps_bits : (mask : ColMask) (column other : ℕ) → has_column mask other ≡ true → has_column (with_bit mask column) other ≡ true
keeps_bits mask column other h =
    let parts = and_parts (nat_lt other 32) (bit_at mask.0 other == 1) h in
    let is : bit_at mask.0 other ≡ 1 = eqb-true (bit_at mask.0 other) 1 parts.1 in
    let both = bit_at_or mask.0 (2 ^ column) other in
    let bit = bit_at-lt (2 ^ column) other in
    and_from (nat_lt other 32) _ parts.0 (eq-eqb (bit_at (bit_or mask.0 (2 ^ column)) other) 1 (omega arith))

-- a set of columns keeps what it has when one more comes
keeps_columns : (b : Bool) (mask : ColMask) (column other : ℕ) → has_column mask other ≡ true
    → has_column (if b then with_bit mask column else mask) other ≡ true
keeps_columns true mask column other h = keeps_bits mask column other h
keeps_columns false mask column other h = h

-- and has that one then
has_new : (mask : ColMask) (column : ℕ) → column < 32 → has_column (with mask column) column ≡ true
has_new mask column l =
    let both = bit_at_or mask.0 (2 ^ column) column in
    let same = bit_at-pow_same column in
    let bit = bit_at-lt mask.0 column in
    ap (λ (b : Bool). has_column (if b then with_bit mask column else mask) column) (lt-ltb column 32 l)
    ∙ and_from (nat_lt column 32) _ (lt-ltb column 32 l) (eq-eqb (bit_at (bit_or mask.0 (2 ^ column)) column) 1 (omega arith))

-- the columns are told when one more record comes, and its column
pub masked_more : (mask : ColMask) (places : List Keyed) (key : Key) (number : ℕ) → All (λ (place : Keyed). has_column mask place.key.column ≡ true) places
    → key.column < 32 → All (λ (place : Keyed). has_column (with mask key.column) place.key.column ≡ true) (places ++ keyed key number ∷ [])
masked_more mask places key number masked within =
    All-push (λ (place : Keyed). has_column (with mask key.column) place.key.column ≡ true) places (keyed key number)
    (All-weaker (λ (place : Keyed). has_column mask place.key.column ≡ true)
    (λ (place : Keyed). has_column (with mask key.column) place.key.column ≡ true)
    (λ (place : Keyed) h. keeps_columns (nat_lt key.column 32) mask key.column place.key.column h) places masked)
    (has_new mask key.column within)
