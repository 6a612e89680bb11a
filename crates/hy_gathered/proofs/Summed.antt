-- Sums over rows that are gathered, row by row and piece by piece.
use Rattle.std.proofs.Common.{◌≡◌, ℕ, ◌+◌, ◌<◌, ◌≤◌, List, [], ◌∷◌, ◌++◌, map, length, get_or, drop, ap, sym, ◌∙◌, arith, ℤ, pos, ◌+ℤ◌}
use Rattle.std.proofs.lemmas.Int.{ints}
use Rattle.std.proofs.lemmas.List.{drop_all, drop_more, length-append}
use Rattle.hy_value.specs.declared.ColMask.{ColMask}
use Rattle.hy_value.specs.declared.Value.{Value}
use Rattle.hy_bound.specs.Predicate.{column_of}
use Rattle.hy_bound.specs.Projection.{spread}
use Rattle.hy_meaning.specs.Statement.{Table}
use Rattle.hy_meaning.specs.Totals.{added_of, sum_of}
use Rattle.hy_plan.specs.Cells.{GatheredRows}
use Rattle.hy_gathered.specs.Pieces.{rows_in_pieces}
use Rattle.hy_gathered.specs.Sums.{sum_by, value_in}
use Rattle.hy_gathered.specs.declared.sums.PartColumn.{PartColumn}
use Rattle.hy_gathered.proofs.Piled.{pieces_at}

-- a column by its number and those of its table
pub value_is : (column : PartColumn) (columns : ColMask) (width number : ℕ) (row : List Value)
    → column.columns ≡ columns → column.width ≡ width → column.column ≡ number
    → value_in column row ≡ column_of (spread columns width row) number
value_is column columns width number row one two three =
    ap (λ (mask : ColMask). column_of (spread mask column.width row) column.column) one
    ∙ (ap (λ (w : ℕ). column_of (spread columns w row) column.column) two ∙ ap (column_of (spread columns width row)) three)

pub sum_is : (column : PartColumn) (columns : ColMask) (width number : ℕ) (rows : Table)
    → column.columns ≡ columns → column.width ≡ width → column.column ≡ number
    → sum_by column rows ≡ sum_of number (map (spread columns width) rows)
sum_is column columns width number rows one two three =
    ap (λ (mask : ColMask). sum_of column.column (map (spread mask column.width) rows)) one
    ∙ (ap (λ (w : ℕ). sum_of column.column (map (spread columns w) rows)) two ∙ ap (λ (n : ℕ). sum_of n (map (spread columns width) rows)) three)

-- rows behind others add to their sum
pub sum_behind : (column : PartColumn) (rows others : Table) → sum_by column (rows ++ others) ≡ sum_by column rows +ℤ sum_by column others
sum_behind column [] others = let e : ◌≡◌ {A = ℤ} (sum_by column others) (pos 0 +ℤ sum_by column others) = omega (arith, ints) in e
sum_behind column (row ∷ rows) others =
    let more : sum_by column (rows ++ others) ≡ sum_by column rows +ℤ sum_by column others = sum_behind column rows others in
    let first : ℤ = added_of (value_in column row) in
    let step : first +ℤ sum_by column (rows ++ others) ≡ (first +ℤ sum_by column rows) +ℤ sum_by column others = omega (arith, ints, more) in
    step

-- a row more is added
pub row_more : (column : PartColumn) (rows : Table) (index : ℕ) (sum one next all : ℤ) → index < length rows → one ≡ added_of (value_in column (get_or rows index []))
    → next ≡ sum +ℤ one → sum +ℤ sum_by column (drop index rows) ≡ all → next +ℤ sum_by column (drop (index + 1) rows) ≡ all
row_more column rows index sum one next all below is adds so =
    let first : sum_by column (drop index rows) ≡ added_of (value_in column (get_or rows index [])) +ℤ sum_by column (drop (index + 1) rows) =
    ap (sum_by column) (drop_more rows index [] below) in
    omega (arith, ints, first, is, adds, so)

-- behind the last row nothing is left to add
pub rows_done : (column : PartColumn) (rows : Table) (index : ℕ) (sum all : ℤ) → length rows ≤ index → sum +ℤ sum_by column (drop index rows) ≡ all → sum ≡ all
rows_done column rows index sum all none so =
    let whole : sum +ℤ pos 0 ≡ all = ap (λ (those : Table). sum +ℤ sum_by column those) (sym (drop_all index rows none)) ∙ so in
    omega (arith, ints, whole)

-- a piece more is added
pub piece_more : (column : PartColumn) (pieces : List GatheredRows) (index : ℕ) (piece : GatheredRows) (sum one next all : ℤ) → index < length pieces
    → piece ≡ get_or pieces index piece → one ≡ sum_by column piece.rows → next ≡ sum +ℤ one
    → sum +ℤ sum_by column (rows_in_pieces (drop index pieces)) ≡ all → next +ℤ sum_by column (rows_in_pieces (drop (index + 1) pieces)) ≡ all
piece_more column pieces index piece sum one next all below is ones adds so =
    let rest : Table = rows_in_pieces (drop (index + 1) pieces) in
    let first : sum_by column (rows_in_pieces (drop index pieces)) ≡ sum_by column piece.rows +ℤ sum_by column rest =
    ap (sum_by column) (pieces_at pieces index piece below is) ∙ sum_behind column piece.rows rest in
    omega (arith, ints, first, ones, adds, so)

-- and leaves fewer rows
pub pieces_fewer : (pieces : List GatheredRows) (index : ℕ) (piece : GatheredRows) → index < length pieces → piece ≡ get_or pieces index piece
    → length (rows_in_pieces (drop index pieces)) ≡ length piece.rows + length (rows_in_pieces (drop (index + 1) pieces))
pieces_fewer pieces index piece below is =
    ap (λ (rows : Table). length rows) (pieces_at pieces index piece below is) ∙ length-append piece.rows (rows_in_pieces (drop (index + 1) pieces))

-- behind the last piece nothing is left to add
pub pieces_done : (column : PartColumn) (pieces : List GatheredRows) (index : ℕ) (sum all : ℤ) → length pieces ≤ index
    → sum +ℤ sum_by column (rows_in_pieces (drop index pieces)) ≡ all → sum ≡ all
pieces_done column pieces index sum all none so =
    let whole : sum +ℤ pos 0 ≡ all = ap (λ (those : List GatheredRows). sum +ℤ sum_by column (rows_in_pieces those)) (sym (drop_all index pieces none)) ∙ so in
    omega (arith, ints, whole)
