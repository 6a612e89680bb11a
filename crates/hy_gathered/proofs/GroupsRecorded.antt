-- The columns that are gathered for a SELECT with GROUP BY are among those of its record.
use Rattle.std.proofs.Common.{◌≡◌, ℕ, ◌+◌, List, ◌∷◌, ◌++◌, ◌∙◌, sym}
use Rattle.std.specs.Prelude.{true, ◌&&◌, nat_lt}
use Rattle.std.proofs.lemmas.Bool.{and_parts, and_from}
use Rattle.hy_value.specs.Columns.{has_column}
use Rattle.hy_bound.specs.Records.{columns_of, columns_summed}
use Rattle.hy_bound.specs.Agreement.{is_named}
use Rattle.hy_bound.specs.Truths.{named_front}
use Rattle.hy_plan.specs.ColumnSets.{named_columns}
use Rattle.hy_plan.specs.Members.{has_named}
use Rattle.hy_gathered.specs.GroupLaws.{GatheredIsRecorded}

-- more columns are named by a longer list
more_named : (width : ℕ) (xs ys : List ℕ) (column : ℕ) → has_column (named_columns 0 width xs) column ≡ true
    → has_column (named_columns 0 width (xs ++ ys)) column ≡ true
more_named width xs ys column has =
    let near = and_parts (nat_lt column 32) (nat_lt column width && is_named xs (0 + column)) (sym (has_named 0 width xs column) ∙ has) in
    let within = and_parts (nat_lt column width) (is_named xs (0 + column)) near.1 in
    has_named 0 width (xs ++ ys) column
    ∙ and_from (nat_lt column 32) (nat_lt column width && is_named (xs ++ ys) (0 + column)) near.0
    (and_from (nat_lt column width) (is_named (xs ++ ys) (0 + column)) within.0 (named_front xs ys (0 + column) within.1))

pub gathered_recorded : GatheredIsRecorded
gathered_recorded shape table pred key aggregate column has =
    more_named shape.width (key ∷ columns_summed aggregate) (columns_of pred) column has
