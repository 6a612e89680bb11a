-- When bytes are the body of an entry that is of the tables' columns.
use Rattle.std.specs.Prelude.{◌≡◌, ℕ, List, [], ◌∷◌, None, Some, slice_get}
use Rattle.std.specs.List.{AllByRecursion}
use Rattle.std.specs.Option.{IsSomeAnd}
use Rattle.std.specs.Str.{IsUtf8}
use Rattle.hy_value.specs.declared.Kind.{Kind}
use Rattle.hy_value.specs.declared.Kind.TheVariants as kind
use Rattle.hy_value.specs.declared.Value.{Value}
use Rattle.hy_value.specs.declared.Value.TheVariants as value
use Rattle.hy_value.specs.declared.change.Change.{Change}
use Rattle.hy_notes.specs.Notes.{Cell}
use Rattle.hy_journal.specs.declared.Entry.{Entry}
use Rattle.hy_log_record.specs.declared.HeldTable.{HeldTable}
use Rattle.hy_log_record.specs.Bytes.{net_of, body_of, HasBytes}

-- a value is of a column's type, a text in UTF-8, or NULL
abbrev pub IsOfKind : Kind → Value → Type 0
IsOfKind kind.Int value.Null = Unit {0}
IsOfKind kind.Int (value.Int number) = Unit {0}
IsOfKind kind.Int (value.Text text) = ⊥
IsOfKind kind.Str value.Null = Unit {0}
IsOfKind kind.Str (value.Int number) = ⊥
IsOfKind kind.Str (value.Text text) = IsUtf8 text

-- values of these columns: one for each, of its type
abbrev pub AreOfKinds : List Kind → List Value → Type 0
AreOfKinds [] [] = Unit {0}
AreOfKinds [] (value ∷ row) = ⊥
AreOfKinds (kind ∷ kinds) [] = ⊥
AreOfKinds (kind ∷ kinds) (value ∷ row) = IsOfKind kind value × AreOfKinds kinds row

-- a row of these columns, where it is there
abbrev pub IsRowOf : List Kind → Cell → Type 0
IsRowOf kinds None = Unit {0}
IsRowOf kinds (Some row) = AreOfKinds kinds row

-- the change of a table that is there, from and to rows of its columns
abbrev pub IsChangeOf : List HeldTable → Change → Type 0
IsChangeOf tables change =
    IsSomeAnd (slice_get tables change.table) (λ (table : HeldTable). IsRowOf table.kinds change.before × IsRowOf table.kinds change.after)

-- each net change of the entry is one of these tables
abbrev pub IsEntryOf : List HeldTable → Entry → Type 0
IsEntryOf tables entry = AllByRecursion (IsChangeOf tables) (net_of entry)

-- the bytes are the body of an entry of these tables
pub record IsBody (tables : List HeldTable) (entry : Entry) (bytes : List ℕ) : Type 0 where
  pub is : bytes ≡ body_of entry
  pub has : HasBytes entry
  pub of : IsEntryOf tables entry
