-- The keys of the used positions, by which rows are looked up.
use Rattle.std.specs.Prelude.{◌≡◌, ◌≤◌, ◌<◌, ◌↔◌, ℕ, List, [], Bool, true, false, not, ◌==◌, Option, None, Some, Contains, count_by, length, slice_index_or}
use Rattle.std.specs.List.{AllByRecursion}
use Rattle.hy_value.specs.declared.Kind.{Kind}
use Rattle.hy_value.specs.declared.Kind.TheVariants.{Int}
use Rattle.hy_value.specs.declared.Value.{Value}
use Rattle.hy_stamp.specs.declared.Viewer.{Viewer}
use Rattle.hy_bound.specs.Predicate.{column_of}
use Rattle.hy_chain.specs.Chains.{Undo}
use Rattle.hy_index.specs.Entries.{IndexEntry}
use Rattle.hy_index.specs.Indexed.{Indexed}
use Rattle.hy_undo.specs.Images.{Image}
use Rattle.hy_undo.specs.Places.{Place, sees}
use Rattle.hy_chunk.specs.Fields.{nth}

-- an entry is that of a used position, and has the key in place there
abbrev pub IsEntry : ℕ → List (List Value) → List Bool → IndexEntry → Type 0
IsEntry key rows used e = (slice_index_or used e.pos false ≡ true) × (e.key ≡ column_of (slice_index_or rows e.pos []) key)

-- the entries are those of the used positions, and there is room for all others
pub record HasKeys (key : ℕ) (rows : List (List Value)) (used : List Bool) (index : Indexed) : Type 0 where
  pub exact : (e : IndexEntry) → Contains index.entries e ↔ IsEntry key rows used e
  pub room : count_by not used ≤ index.room

-- so it is where there is a key
abbrev pub IsIndexed : Option ℕ → List (List Value) → List Bool → Indexed → Type 0
IsIndexed None rows used index = Unit {0}
IsIndexed (Some key) rows used index = HasKeys key rows used index

-- the type of the keys: any where no column is the key
abbrev pub key_kind : List Kind → Option ℕ → Kind
key_kind kinds None = Int
key_kind kinds (Some key) = slice_index_or kinds key Int

-- no before-image has another key
abbrev pub SparesKey : ℕ → List (Undo Image) → Type 0
SparesKey key chain = AllByRecursion (λ undo. slice_index_or undo.image.values key None ≡ None) chain

abbrev pub SpareKeys : Option ℕ → List (List (Undo Image)) → Type 0
SpareKeys None chains = Unit {0}
SpareKeys (Some key) chains = (place : ℕ) → SparesKey key (slice_index_or chains place [])

-- two rows have the same key, where there is one
abbrev pub SameKey : Option ℕ → List Value → List Value → Type 0
SameKey None row other = Unit {0}
SameKey (Some key) row other = column_of row key ≡ column_of other key

-- whether a column is the key
abbrev pub is_key_of : Option ℕ → ℕ → Bool
is_key_of None column = false
is_key_of (Some key) column = key == column

-- each row that a viewer sees with this key is at a position of these
abbrev pub AreFound : ℕ → Value → List Place → List ℕ → Type 0
AreFound key value places found =
    (viewer : Viewer) (place : ℕ) (row : List Value) → place < length places → sees viewer (nth places place) ≡ Some row → column_of row key ≡ value
    → Contains found place

-- each used position with this key in place is one of these
abbrev pub HaveUsed : ℕ → Value → List Place → List ℕ → Type 0
HaveUsed key value places found =
    (place : ℕ) → place < length places → (nth places place).used ≡ true → column_of (nth places place).version.row key ≡ value → Contains found place

-- a row that a viewer sees is at a used position, and has the key that is in place there
abbrev pub KeysStay : Option ℕ → List Place → Type 0
KeysStay key places =
    (column : ℕ) (viewer : Viewer) (place : ℕ) (row : List Value) → key ≡ Some column → place < length places → sees viewer (nth places place) ≡ Some row
    → ((nth places place).used ≡ true) × (column_of row column ≡ column_of (nth places place).version.row column)
