-- The ordinal of a column, and ordinals in order.
use Rattle.std.proofs.Common.{◌≡◌, ℕ, zero, suc, ◌+◌, List, [], ◌∷◌, ◌++◌, ap, arith}
use Rattle.std.specs.List.{position, range_with_len}
use Rattle.std.specs.Str.{bytes_eq}
use Rattle.hy_schema.specs.declared.Column.{Column}
use Rattle.hy_schema.specs.Names.{column_number}
use Rattle.hy_schema.specs.Indexes.{position_map}

-- a column's number is its ordinal
pub ordinal_of_column : (columns : List Column) (name : List ℕ) → column_number columns name ≡ position (λ (column : Column). bytes_eq name column.name) columns
ordinal_of_column columns name = position_map (bytes_eq name) (λ (column : Column). column.name) columns

-- one number more, at the end
pub one_more : (a n j : ℕ) → a + n ≡ j → range_with_len a (suc n) ≡ range_with_len a n ++ j ∷ []
one_more a zero j e = ap (λ k. k ∷ []) (omega (arith, e))
one_more a (suc n) j e = ap (λ ks. a ∷ ks) (one_more (a + 1) n j (omega (arith, e)))
