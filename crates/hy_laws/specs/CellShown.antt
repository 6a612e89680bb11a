-- What a record shows of a table's positions, and that changes which miss the record leave it.
use Rattle.std.specs.Prelude.{◌≡◌, ℕ, ◌<◌, ◌≤◌, List, [], ◌∷◌, true, false, if◌then◌else◌, Option, None, Some, IfSome, length, map}
use Rattle.std.specs.List.{AllByRecursion}
use Rattle.hy_value.specs.declared.Value.{Value}
use Rattle.hy_value.specs.Columns.{has_column}
use Rattle.hy_bound.specs.declared.Bound.{Bound}
use Rattle.hy_bound.specs.declared.Record.{Record}
use Rattle.hy_bound.specs.declared.Shape.{Shape}
use Rattle.hy_bound.specs.Agreement.{HaveWidth}
use Rattle.hy_bound.specs.Changes.{Change, present, rows_before, rows_after}
use Rattle.hy_bound.specs.Predicate.{truth_of}
use Rattle.hy_bound.specs.Projection.{masked}
use Rattle.hy_bound.specs.Records.{columns_of, is_hit, shape_of}
use Rattle.hy_meaning.specs.Statement.{Table}
use Rattle.hy_plan.specs.declared.Read.{Read}
use Rattle.hy_plan.specs.Reads.{rows_read_of, records_of}

-- what a record shows of a position: the row there, with NULL outside the record's columns, where its condition is true
abbrev pub shown_by : Record → Option (List Value) → Option (List Value)
shown_by logged None = None
shown_by logged (Some row) = if truth_of logged.pred row then Some (masked logged.columns row) else None

-- what it shows of positions, one after another
abbrev pub rows_shown_by : Record → List (Option (List Value)) → List (List Value)
rows_shown_by logged cells = present (map (shown_by logged) cells)

-- the record of a table with so many columns has those that its condition names
abbrev pub HasItsColumns : ℕ → Record → Type 0
HasItsColumns width logged = AllByRecursion (λ column. column < width → has_column logged.columns column ≡ true) (columns_of logged.pred)

-- a row that is there has so many columns
abbrev pub HasColumns : ℕ → Option (List Value) → Type 0
HasColumns width cell = IfSome cell (λ row. length row ≡ width)

-- a change that doesn't hit a record shows the same before and after
abbrev pub ShowsTheSame : Type 0
ShowsTheSame =
    (width : ℕ) (logged : Record) (before after : Option (List Value))
    → HasItsColumns width logged → HasColumns width before → HasColumns width after
    → is_hit logged before after ≡ false → shown_by logged before ≡ shown_by logged after

-- so do tables that differ, position by position, only by such changes: the same rows in the same order
abbrev pub TablesShowTheSame : Type 0
TablesShowTheSame =
    (width : ℕ) (logged : Record) (changes : List Change)
    → HasItsColumns width logged → HaveWidth width (rows_before changes) → HaveWidth width (rows_after changes)
    → AllByRecursion (λ change. is_hit logged change.0 change.1 ≡ false) changes
    → rows_shown_by logged (map (λ change. change.0) changes) ≡ rows_shown_by logged (map (λ change. change.1) changes)

-- the read under a record's condition alone
abbrev pub read_by : Record → Read
read_by logged = record { table = logged.table; conditions = logged.pred ∷ []; columns = logged.columns }

-- what a record shows is what is read under its condition
abbrev pub ShowsWhatIsRead : Type 0
ShowsWhatIsRead = (logged : Record) (cells : List (Option (List Value))) → rows_shown_by logged cells ≡ rows_read_of (read_by logged) (present cells)

-- the records that statements log have the columns that their conditions name, of tables with at most 32 columns
abbrev pub LoggedHaveTheirColumns : Type 0
LoggedHaveTheirColumns =
    (shapes : List Shape) (number : ℕ) (statement : Bound) (gathered : List Table) → ((table : ℕ) → (shape_of shapes table).width ≤ 32)
    → AllByRecursion (λ logged. HasItsColumns (shape_of shapes logged.table).width logged) (records_of shapes number statement gathered)
