-- What a comparison with a number says of the values of a column.
use Rattle.std.specs.Prelude.{ℕ, ℤ, List, Bool, false, Option, None, Some, map, slice_index_or}
use Rattle.std.specs.declared.cmp.Ordering.TheVariants.{Greater}
use Rattle.hy_value.specs.declared.Cmp.{Cmp}
use Rattle.hy_value.specs.declared.Kind.{Kind}
use Rattle.hy_value.specs.declared.Kind.TheVariants as kind
use Rattle.hy_value.specs.declared.Value.{Value}
use Rattle.hy_value.specs.declared.Value.TheVariants as value
use Rattle.hy_value.specs.Order.{holds_at}
use Rattle.hy_kernel.specs.Bits.{compares}

-- of a number or NULL: of NULL it isn't true
abbrev pub compares_number : Cmp → ℤ → Option ℤ → Bool
compares_number op right None = false
compares_number op right (Some number) = compares op right number

-- of a value: of NULL it isn't true, and texts come behind numbers
abbrev pub compares_value : Cmp → ℤ → Value → Bool
compares_value op right value.Null = false
compares_value op right (value.Int number) = compares op right number
compares_value op right (value.Text text) = holds_at op Greater

-- of a column of a type, row by row; nothing of a column of texts
abbrev pub column_compared : Cmp → ℤ → ℕ → List (List Value) → Kind → Option (List Bool)
column_compared op right column rows kind.Int = Some (map (λ row. compares_value op right (slice_index_or row column value.Null)) rows)
column_compared op right column rows kind.Str = None
