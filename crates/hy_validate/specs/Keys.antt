-- Records by what the first condition of their restrictions seeks: a value in a column of a table.
use Rattle.std.specs.Prelude.{◌≡◌, ℕ, ◌<◌, List, All, Any, Bool, true, Option, slice_index_or}
use Rattle.std.specs.Ordering.{nat_cmp, ordering_then, is_lt}
use Rattle.std.specs.declared.cmp.Ordering.{Ordering}
use Rattle.std.specs.declared.cmp.Ordering.TheVariants.{Equal}
use Rattle.hy_value.specs.declared.Value.{Value}
use Rattle.hy_value.specs.declared.Cmp.TheVariants.{Eq}
use Rattle.hy_value.specs.Columns.{has_column}
use Rattle.hy_value.specs.Order.{value_cmp}
use Rattle.hy_value.specs.Refs.{referred}
use Rattle.hy_bound.specs.declared.Record.{Record}
use Rattle.hy_bound.specs.declared.predicate.Side.TheVariants.{Literal}
use Rattle.hy_bound.specs.Condition.{Condition, Compare}
use Rattle.hy_bound.specs.Predicate.{truth_at}
use Rattle.hy_validate.specs.declared.keys.Key.{Key}
use Rattle.hy_validate.specs.declared.keys.Keyed.{Keyed}
use Rattle.hy_validate.specs.declared.keys.KeyedRecords.{KeyedRecords}
use Rattle.hy_validate.specs.FirstConditions.{first_condition_of}

abbrev pub keyed : Key → ℕ → Keyed
keyed key number = record { key = key; number = number }

-- the condition that seeks it
abbrev pub sought : Key → Condition
sought key = Compare key.column Eq (Literal (referred key.value))

-- the first condition of a record seeks it
pub record IsKeyOf (logged : Record) (key : Key) : Type 0 where
  pub table : key.table ≡ logged.table
  pub first : sought key ≡ first_condition_of logged.pred
  pub column : key.column < 32

-- by table, column and value
abbrev pub key_cmp : Key → Key → Ordering
key_cmp key other =
    ordering_then (ordering_then (nat_cmp key.table other.table) (nat_cmp key.column other.column)) (value_cmp (referred key.value) (referred other.value))

-- by what is sought, and then by number
abbrev pub keyed_cmp : Keyed → Keyed → Ordering
keyed_cmp place other = ordering_then (key_cmp place.key other.key) (nat_cmp place.number other.number)

-- what a record seeks comes before a key
abbrev pub is_below : Key → Keyed → Bool
is_below key place = is_lt (key_cmp place.key key)

-- each record is of the key that it stands under
abbrev pub AreOfKeys : List Record → List Keyed → Type 0
AreOfKeys records places = All (λ place. (d : Record) → IsKeyOf (slice_index_or records place.number d) place.key) places

-- the columns are told in which values are sought
abbrev pub IsMasked : KeyedRecords → Type 0
IsMasked keyed = All (λ place. has_column keyed.columns place.key.column ≡ true) keyed.places.items

pub record AreKeyed (records : List Record) (keyed : KeyedRecords) : Type 0 where
  pub of_keys : AreOfKeys records keyed.places.items
  pub masked : IsMasked keyed

-- a number is one of these
abbrev pub HasNumber : List Keyed → ℕ → Type 0
HasNumber places number = Any (λ place. place.number ≡ number) places

-- and one whose record seeks this
abbrev pub HasTied : Key → List Keyed → ℕ → Type 0
HasTied key places number = Any (λ place. (key_cmp place.key key ≡ Equal) × (place.number ≡ number)) places

-- a value is sought in a column of a table
pub record Seeks (table column : ℕ) (value : Value) (key : Key) : Type 0 where
  pub table_is : key.table ≡ table
  pub column_is : key.column ≡ column
  pub ties : value_cmp (referred key.value) value ≡ Equal

-- and one whose record seeks this value in a column of a table
abbrev pub HasValue : ℕ → ℕ → Value → List Keyed → ℕ → Type 0
HasValue table column value places number = Any (λ place. Seeks table column value place.key × (place.number ≡ number)) places

-- what is sought in a table is in a row that is there or not
pub record IsTrueIn (table : ℕ) (row : Option (List Value)) (key : Key) : Type 0 where
  pub table_is : key.table ≡ table
  pub holds : truth_at (sought key) row ≡ true

-- and one whose record seeks what a row of a table has
abbrev pub HasTrue : ℕ → Option (List Value) → List Keyed → ℕ → Type 0
HasTrue table row places number = Any (λ place. IsTrueIn table row place.key × (place.number ≡ number)) places
