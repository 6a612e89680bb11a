-- What is looked up for a plan, as rows of the tables, is what is read of them.
use Rattle.std.proofs.Common.{◌≡◌, ℕ, ◌+◌, List, [], ◌∷◌, ◌++◌, length, refl, ap, sym, ◌∙◌, subst}
use Rattle.std.specs.Prelude.{Option, None, map, filter, slice_get, drop}
use Rattle.std.proofs.lemmas.List.{length-append}
use Rattle.std.proofs.lemmas.List.FromFn.{length-map-range_with_len}
use Rattle.hy_value.specs.declared.Value.{Value}
use Rattle.hy_bound.specs.declared.On.{On}
use Rattle.hy_bound.specs.declared.Shape.{Shape}
use Rattle.hy_bound.specs.Condition.{Condition}
use Rattle.hy_bound.specs.Predicate.{column_of}
use Rattle.hy_bound.specs.Projection.{masked}
use Rattle.hy_bound.specs.Records.{shape_of, select_conditions}
use Rattle.hy_bound.specs.Agreement.{HaveWidth, FitTables}
use Rattle.hy_meaning.specs.Statement.{Table}
use Rattle.hy_plan.specs.declared.Read.{Read}
use Rattle.hy_plan.specs.declared.PlanPart.{PlanPart}
use Rattle.hy_plan.specs.Plans.{part_of, parts_from}
use Rattle.hy_plan.specs.Reads.{is_read_of, rows_read_of, looked_up_column, columns_over, table_read_of, reads_from, select_named, read_rows}
use Rattle.hy_gathered.specs.Answers.{spread_all}
use Rattle.hy_laws.specs.Lookups.{is_gathered, gathered_for, spread_of, looked_up_behind, LookedUpIsRead}
use Rattle.hy_laws.proofs.Keys.{read_where_wanted}
use Rattle.hy_laws.proofs.Spread.{each_kept, same_kept, rows_spread}

-- what is gathered for a part is what is read of its table
part_read : (shape : Shape) (table : ℕ) (on : Option On) (conditions : List Condition) (named : List ℕ) (earlier : List (List Value))
    (rows : Table) → HaveWidth shape.width rows
    → spread_of (part_of shape table (length earlier) on conditions named)
    (gathered_for (part_of shape table (length earlier) on conditions named) earlier rows)
    ≡ rows_read_of (table_read_of shape table on conditions named earlier) rows
part_read shape table on conditions named earlier rows fits =
    let part : PlanPart = part_of shape table (length earlier) on conditions named in
    let read : Read = table_read_of shape table on conditions named earlier in
    rows_spread part.columns shape.width (filter (is_gathered part earlier) rows)
    (each_kept (λ row. length row ≡ shape.width) (is_gathered part earlier) rows fits)
    ∙ ap (map (masked part.columns))
    (same_kept (is_gathered part earlier) (is_read_of read.conditions) rows
    (λ row. sym (read_where_wanted part.pred shape.key (looked_up_column shape.key (length earlier) on) earlier row)))

-- so many columns stand behind these
columns_behind : (earlier : List (List Value)) (width : ℕ) (rows : Table) → length (earlier ++ columns_over width rows) ≡ length earlier + width
columns_behind earlier width rows =
    length-append earlier (columns_over width rows)
    ∙ ap (λ n. length earlier + n) (length-map-range_with_len (λ column. map (λ row. column_of row column) rows) 0 width)

-- part by part, the columns gathered so far are those that were read so far
parts_read : (shapes : List Shape) (conditions : List Condition) (named : List ℕ) (earlier : List (List Value)) (on : Option On) (ons : List On)
    (numbers : List ℕ) (tables : List Table) → FitTables shapes numbers tables
    → spread_all (parts_from shapes conditions named (length earlier) on ons numbers)
    (looked_up_behind earlier (parts_from shapes conditions named (length earlier) on ons numbers) tables)
    ≡ read_rows (reads_from shapes conditions named earlier on ons numbers tables) tables
parts_read shapes conditions named earlier on ons [] [] fits = refl
parts_read shapes conditions named earlier on ons [] (rows ∷ tables) fits = absurd fits
parts_read shapes conditions named earlier on ons (number ∷ numbers) [] fits = absurd fits
parts_read shapes conditions named earlier on ons (number ∷ numbers) (rows ∷ tables) fits =
    let shape : Shape = shape_of shapes number in
    let read : Read = table_read_of shape number on conditions named earlier in
    let more : Table → List (List Value) = λ rs. earlier ++ columns_over shape.width rs in
    let parts : ℕ → List PlanPart = λ n. parts_from shapes conditions named n (slice_get ons 0) (drop 1 ons) numbers in
    let others : List PlanPart = parts (length earlier + shape.width) in
    let now : Table = rows_read_of read rows in
    let P : ℕ → Type 0 = λ n. spread_all (parts n) (looked_up_behind (more now) (parts n) tables)
    ≡ read_rows (reads_from shapes conditions named (more now) (slice_get ons 0) (drop 1 ons) numbers tables) tables in
    ap (λ (rs : Table). rs ∷ spread_all others (looked_up_behind (more rs) others tables)) (part_read shape number on conditions named earlier rows fits.0.1)
    ∙ ap (λ (ts : List Table). now ∷ ts)
    (subst P (columns_behind earlier shape.width now) (parts_read shapes conditions named (more now) (slice_get ons 0) (drop 1 ons) numbers tables fits.1))

-- what is looked up for a SELECT's plan is what it reads
pub looked_up_read : LookedUpIsRead
looked_up_read shapes numbers ons pred items tables fits =
    parts_read shapes (select_conditions ons pred) (select_named ons pred items) [] None ons numbers tables fits
