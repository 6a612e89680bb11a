-- Neighbours of the law that a change which misses a record shows the same: the record may lack columns of its condition.
use Rattle.std.specs.Prelude.{◌≡◌, ℕ, List, [], ◌∷◌, false, Option}
use Rattle.hy_value.specs.declared.Value.{Value}
use Rattle.hy_value.specs.Columns.{no_columns}
use Rattle.hy_bound.specs.declared.Bound.TheVariants.{Select}
use Rattle.hy_bound.specs.declared.Items.{Items}
use Rattle.hy_bound.specs.declared.Record.{Record}
use Rattle.hy_bound.specs.declared.Shape.{Shape}
use Rattle.hy_bound.specs.Changes.{Change, Miss, FitChanges}
use Rattle.hy_bound.specs.Condition.{Condition}
use Rattle.hy_bound.specs.Records.{columns_shown, is_hit, shape_of}
use Rattle.hy_plan.specs.ColumnSets.{named_columns}
use Rattle.hy_laws.specs.CellShown.{HasColumns, shown_by}
use Rattle.hy_cases.specs.Examples.{is_one}
use Rattle.hy_cases.specs.Unseen.{RepliesTheSame}

-- a change that doesn't hit a record shows the same, whatever columns the record has
abbrev pub AnyColumnsSuffice : Type 0
AnyColumnsSuffice =
    (width : ℕ) (logged : Record) (before after : Option (List Value)) → HasColumns width before → HasColumns width after
    → is_hit logged before after ≡ false → shown_by logged before ≡ shown_by logged after

-- a record of a count without the column of its WHERE
abbrev pub without_where : Record
without_where = record { statement = 1; table = 0; pred = is_one; columns = no_columns }

-- the record of a SELECT of one table that has only the columns which it shows
abbrev pub of_what_is_shown : List Shape → ℕ → ℕ → Condition → Items → Record
of_what_is_shown shapes number table pred items =
    record { statement = number; table = table; pred = pred; columns = named_columns 0 (shape_of shapes table).width (columns_shown items) }

-- the reply to a SELECT of one table stays where changes don't hit this record
abbrev pub ShownColumnsSuffice : Type 0
ShownColumnsSuffice =
    (shapes : List Shape) (number table : ℕ) (pred : Condition) (items : Items) (changes : List (List Change)) → FitChanges shapes changes
    → Miss (of_what_is_shown shapes number table pred items ∷ []) changes → RepliesTheSame shapes (Select (table ∷ []) [] pred items) changes
