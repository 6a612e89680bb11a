-- The bytes of values, rows, changes and entries. Numbers are big-endian.
use Rattle.std.specs.Prelude.{ℕ, ◌<◌, ◌^◌, List, [], ◌∷◌, ◌++◌, None, Some, length, filter}
use Rattle.std.specs.List.{flat_map, AllByRecursion}
use Rattle.std.specs.Int.{w32, w64, to_be_bytes, cast_unsigned}
use Rattle.std.specs.Int.RustNames.{FitsSigned}
use Rattle.hy_value.specs.declared.Value.{Value}
use Rattle.hy_value.specs.declared.Value.TheVariants.{Null, Int, Text}
use Rattle.hy_value.specs.TextBytes.{IsText}
use Rattle.hy_value.specs.declared.change.Change.{Change}
use Rattle.hy_notes.specs.Notes.{Cell, is_change}
use Rattle.hy_journal.specs.declared.Entry.{Entry}

-- a number as four bytes, and as eight
unfoldable pub be32 : ℕ → List ℕ
be32 number = to_be_bytes w32 number

unfoldable pub be64 : ℕ → List ℕ
be64 number = to_be_bytes w64 number

-- a signed number is eight bytes of two's complement; a text has its length before it
abbrev pub value_bytes : Value → List ℕ
value_bytes Null = 0 ∷ []
value_bytes (Int number) = 1 ∷ be64 (cast_unsigned w64 number)
value_bytes (Text text) = 2 ∷ length text ∷ text

abbrev pub row_bytes : Cell → List ℕ
row_bytes None = 0 ∷ []
row_bytes (Some row) = 1 ∷ flat_map value_bytes row

unfoldable pub change_bytes : Change → List ℕ
change_bytes change = be32 change.table ++ (be32 change.pos ++ (row_bytes change.before ++ row_bytes change.after))

-- the net changes of an entry: of the positions where a row was or is
abbrev pub net_of : Entry → List Change
net_of entry = filter is_change entry.notes

abbrev pub changes_bytes : List Change → List ℕ
changes_bytes changes = be32 (length changes) ++ flat_map change_bytes changes

unfoldable pub body_of : Entry → List ℕ
body_of entry =
    be32 entry.label.session ++ (be32 entry.label.txn ++ (be64 entry.start ++ (be64 entry.time ++ changes_bytes (net_of entry))))

-- what stands behind an entry's gate: the length of its body, and the body
abbrev pub record_of : Entry → List ℕ
record_of entry = be64 (length (body_of entry)) ++ body_of entry

-- ---- what has bytes

-- a number of 64 bits, or a text
abbrev pub HasValueBytes : Value → Type 0
HasValueBytes Null = Unit {0}
HasValueBytes (Int number) = FitsSigned w64 number
HasValueBytes (Text text) = IsText text

abbrev pub HasRowBytes : Cell → Type 0
HasRowBytes None = Unit {0}
HasRowBytes (Some row) = AllByRecursion HasValueBytes row

pub record HasChangeBytes (change : Change) : Type 0 where
  pub table : change.table < 2 ^ 32
  pub pos : change.pos < 2 ^ 32
  pub before : HasRowBytes change.before
  pub after : HasRowBytes change.after

pub record HasBytes (entry : Entry) : Type 0 where
  pub session : entry.label.session < 2 ^ 32
  pub txn : entry.label.txn < 2 ^ 32
  pub start : entry.start < 2 ^ 64
  pub time : entry.time < 2 ^ 64
  pub count : length (net_of entry) < 2 ^ 32
  pub changes : AllByRecursion HasChangeBytes (net_of entry)
  pub length : length (body_of entry) < 2 ^ 64
