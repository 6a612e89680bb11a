-- Neighbours of the law that changes which hit none of a statement's records are unseen by it: each asks for less. Behind
-- each stands a change that is seen.
use Rattle.std.specs.Prelude.{◌≡◌, ℕ, List, [], Bool, true, not, ◌&&◌, ◌==◌, Option, None, Some, map}
use Rattle.std.specs.List.{list_any, list_all}
use Rattle.std.specs.Option.{option_map}
use Rattle.hy_value.specs.declared.Value.{Value}
use Rattle.hy_bound.specs.declared.Bound.{Bound}
use Rattle.hy_bound.specs.declared.Bound.TheVariants.{Insert}
use Rattle.hy_bound.specs.declared.Record.{Record}
use Rattle.hy_bound.specs.declared.Shape.{Shape}
use Rattle.hy_bound.specs.Agreement.{HasItsKey, HaveWidth}
use Rattle.hy_bound.specs.Changes.{Change, rows_before, rows_after, changes_at, Miss, FitChanges}
use Rattle.hy_bound.specs.Predicate.{truth_at, changes_on}
use Rattle.hy_bound.specs.Records.{shape_of}
use Rattle.hy_meaning.specs.Statement.{gathered_by, mean}
use Rattle.hy_plan.specs.Reads.{records_of}
use Rattle.hy_cases.specs.Examples.{row_of, wide_row, only}

-- a statement has the same reply after changes as before them, or stops in both
abbrev pub RepliesTheSame : List Shape → Bound → List (List Change) → Type 0
RepliesTheSame shapes statement changes =
    option_map (λ given. given.0) (mean shapes statement (map rows_after changes))
    ≡ option_map (λ given. given.0) (mean shapes statement (map rows_before changes))

-- what a statement of this number logs over the rows before changes
abbrev pub logged_before : List Shape → ℕ → Bound → List (List Change) → List Record
logged_before shapes number statement changes = records_of shapes number statement (gathered_by statement (map rows_before changes))

-- a test of a record and a change is false of all changes and all records of their tables
abbrev pub MissBy : (Record → Option (List Value) → Option (List Value) → Bool) → List Record → List (List Change) → Type 0
MissBy hit records changes = (table : ℕ)
    → list_all (λ change. not (list_any (λ logged. logged.table == table && hit logged change.0 change.1) records)) (changes_at changes table) ≡ true

-- that the record's condition is true of the row after a change, which comes or changes on a column of the record
abbrev pub hits_after : Record → Option (List Value) → Option (List Value) → Bool
hits_after of before after = truth_at of.pred after && changes_on of.columns before after

-- that it is true of the row before
abbrev pub hits_before : Record → Option (List Value) → Option (List Value) → Bool
hits_before of before after = truth_at of.pred before && changes_on of.columns before after

-- a reply stays where changes hit no record by the rows that they leave
abbrev pub AfterImagesSuffice : Type 0
AfterImagesSuffice =
    (shapes : List Shape) (number : ℕ) (statement : Bound) (changes : List (List Change)) → FitChanges shapes changes
    → MissBy hits_after (logged_before shapes number statement changes) changes → RepliesTheSame shapes statement changes

-- a row leaves those that have 1
abbrev pub leaving : List (List Change)
leaving = only (Some (row_of 1)) (Some (row_of 2))

-- a reply stays where changes hit no record by the rows that they start from
abbrev pub BeforeImagesSuffice : Type 0
BeforeImagesSuffice =
    (shapes : List Shape) (number : ℕ) (statement : Bound) (changes : List (List Change)) → FitChanges shapes changes
    → MissBy hits_before (logged_before shapes number statement changes) changes → RepliesTheSame shapes statement changes

-- a row comes among those that have 1
abbrev pub coming : List (List Change)
coming = only (Some (row_of 2)) (Some (row_of 1))

-- a reply stays where changes hit no record, of whatever width the rows are
abbrev pub AnyWidthsSuffice : Type 0
AnyWidthsSuffice =
    (shapes : List Shape) (number : ℕ) (statement : Bound) (changes : List (List Change))
    → Miss (logged_before shapes number statement changes) changes → RepliesTheSame shapes statement changes

-- a row loses its only column
abbrev pub narrowing : List (List Change)
narrowing = only (Some (row_of 1)) (Some [])

-- rows have the columns of their tables, however many
abbrev pub HaveColumns : List Shape → List (List Change) → Type 0
HaveColumns shapes changes = (table : ℕ) → HasItsKey (shape_of shapes table)
    × (HaveWidth (shape_of shapes table).width (rows_before (changes_at changes table))
    × HaveWidth (shape_of shapes table).width (rows_after (changes_at changes table)))

-- a reply stays where changes hit no record, however many columns tables have
abbrev pub ManyColumnsSuffice : Type 0
ManyColumnsSuffice =
    (shapes : List Shape) (number : ℕ) (statement : Bound) (changes : List (List Change)) → HaveColumns shapes changes
    → Miss (logged_before shapes number statement changes) changes → RepliesTheSame shapes statement changes

-- a row changes on its column of number 32, which no set of columns has
abbrev pub changing_last : List (List Change)
changing_last = only (Some (wide_row 1)) (Some (wide_row 2))

-- the reply to an INSERT stays, without a record of its key
abbrev pub InsertsNeedNoRecord : Type 0
InsertsNeedNoRecord =
    (shapes : List Shape) (table : ℕ) (row : List Value) (changes : List (List Change)) → FitChanges shapes changes
    → RepliesTheSame shapes (Insert table row) changes

-- a row with the key is inserted
abbrev pub inserting : List (List Change)
inserting = only None (Some (row_of 1))
