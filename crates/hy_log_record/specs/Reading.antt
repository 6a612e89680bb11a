-- Reading from the front: what was read and the bytes behind it, or nothing where the bytes begin with none.
use Rattle.std.specs.Prelude.{◌≡◌, ℕ, zero, suc, List, [], ◌∷◌, length, take, drop, Option, Some}
use Rattle.std.specs.Prelude.{None, Result, Ok, Err, nat_lt, ◌&&◌, ◌==◌, slice_get, if◌then◌else◌}
use Rattle.std.specs.Str.{is_utf8}
use Rattle.std.specs.Int.{w32, w64, from_be_bytes, cast_signed}
use Rattle.hy_value.specs.declared.Kind.{Kind}
use Rattle.hy_value.specs.declared.Kind.TheVariants as kind
use Rattle.hy_value.specs.declared.Value.{Value}
use Rattle.hy_value.specs.declared.Value.TheVariants as value
use Rattle.hy_value.specs.TextBytes.{is_text}
use Rattle.hy_value.specs.declared.change.Change.{Change}
use Rattle.hy_notes.specs.Notes.{Cell, is_change}
use Rattle.hy_journal.specs.declared.Entry.{Entry}
use Rattle.hy_log_record.specs.declared.HeldTable.{HeldTable}
use Rattle.hy_log_record.specs.declared.BodyError.{BodyError}
use Rattle.hy_log_record.specs.declared.BodyError.TheVariants.{Malformed, OutOfMemory}

infixl 10 ◌>>=◌
abbrev pub ◌>>=◌ : {A B : Type 0} → Option A → (A → Option B) → Option B
None >>= f = None
(Some x) >>= f = f x

-- what a function returned, seen by view, is what reading gives, unless memory ran out
abbrev pub Fails : {Y : Type 0} → BodyError → Option Y → Type 0
Fails Malformed read = read ≡ None
Fails OutOfMemory read = Unit {0}

abbrev pub Gives : {X Y : Type 0} → (X → Y) → Result X BodyError → Option Y → Type 0
Gives view (Ok x) read = read ≡ Some (view x)
Gives view (Err e) read = Fails e read

abbrev pub u32_at : List ℕ → Option (ℕ × List ℕ)
u32_at bytes = if nat_lt (length bytes) 4 then None else Some (from_be_bytes w32 (take 4 bytes), drop 4 bytes)

abbrev pub u64_at : List ℕ → Option (ℕ × List ℕ)
u64_at bytes = if nat_lt (length bytes) 8 then None else Some (from_be_bytes w64 (take 8 bytes), drop 8 bytes)

-- so many bytes, which are a text in UTF-8
abbrev pub text_if : List ℕ → List ℕ → Option (List ℕ × List ℕ)
text_if text rest = if is_text text && is_utf8 text then Some (text, rest) else None

abbrev pub text_at : List ℕ → Option (List ℕ × List ℕ)
text_at [] = None
text_at (count ∷ bytes) = if nat_lt (length bytes) count then None else text_if (take count bytes) (drop count bytes)

-- a number or a text, for a column of a type
unfoldable pub number_value_at : Kind → List ℕ → Option (Value × List ℕ)
number_value_at kind.Int bytes = do
  number ← u64_at bytes
  Some (value.Int (cast_signed w64 number.0), number.1)
number_value_at kind.Str bytes = None

unfoldable pub text_value_at : Kind → List ℕ → Option (Value × List ℕ)
text_value_at kind.Int bytes = None
text_value_at kind.Str bytes = do
  text ← text_at bytes
  Some (value.Text text.0, text.1)

unfoldable pub value_at : Kind → List ℕ → Option (Value × List ℕ)
value_at column [] = None
value_at column (zero ∷ rest) = Some (value.Null, rest)
value_at column (suc zero ∷ rest) = number_value_at column rest
value_at column (suc (suc zero) ∷ rest) = text_value_at column rest
value_at column (suc (suc (suc tag)) ∷ rest) = None

-- a value for each column
unfoldable pub values_at : List Kind → List ℕ → Option (List Value × List ℕ)
values_at [] bytes = Some ([], bytes)
values_at (column ∷ kinds) bytes = do
  first ← value_at column bytes
  others ← values_at kinds first.1
  Some (first.0 ∷ others.0, others.1)

unfoldable pub row_at : List Kind → List ℕ → Option (Cell × List ℕ)
row_at kinds [] = None
row_at kinds (zero ∷ rest) = Some (None, rest)
row_at kinds (suc zero ∷ rest) = do
  row ← values_at kinds rest
  Some (Some row.0, row.1)
row_at kinds (suc (suc flag) ∷ rest) = None

abbrev pub kinds_at : List HeldTable → ℕ → Option (List Kind)
kinds_at tables table = slice_get tables table >>= λ (held : HeldTable). Some held.kinds

-- a change, which is net
abbrev pub change_if : Change → List ℕ → Option (Change × List ℕ)
change_if change rest = if is_change change then Some (change, rest) else None

unfoldable pub change_at : List HeldTable → List ℕ → Option (Change × List ℕ)
change_at tables bytes = do
  table ← u32_at bytes
  pos ← u32_at table.1
  kinds ← kinds_at tables table.0
  before ← row_at kinds pos.1
  after ← row_at kinds before.1
  change_if (record { table = table.0; pos = pos.0; before = before.0; after = after.0 }) after.1

unfoldable pub changes_at : List HeldTable → ℕ → List ℕ → Option (List Change × List ℕ)
changes_at tables zero bytes = Some ([], bytes)
changes_at tables (suc count) bytes = do
  first ← change_at tables bytes
  others ← changes_at tables count first.1
  Some (first.0 ∷ others.0, others.1)

abbrev pub entry_from : ℕ → ℕ → ℕ → ℕ → List Change → Entry
entry_from session txn start time notes = record { label = record { session = session; txn = txn }; start = start; time = time; notes = notes }

-- all of the bytes
unfoldable pub entry_at : List HeldTable → List ℕ → Option Entry
entry_at tables bytes = do
  session ← u32_at bytes
  txn ← u32_at session.1
  start ← u64_at txn.1
  time ← u64_at start.1
  count ← u32_at time.1
  changes ← changes_at tables count.0 count.1
  if length changes.1 == 0 then Some (entry_from session.0 txn.0 start.0 time.0 changes.0) else None

-- a length, and so many bytes
unfoldable pub record_at : List ℕ → Option (List ℕ × List ℕ)
record_at bytes = do
  count ← u64_at bytes
  if nat_lt (length count.1) count.0 then None else Some (take count.0 count.1, drop count.0 count.1)
