-- The groups of gathered rows, counted row by row and piece by piece.
use Rattle.std.proofs.Common.{◌≡◌, ℕ, ◌+◌, ◌<◌, ◌≤◌, List, [], ◌∷◌, ◌++◌, map, length, get_or, take, ap, sym, ◌∙◌, append_assoc, ℤ}
use Rattle.std.proofs.lemmas.List.{map-append}
use Rattle.hy_value.specs.declared.Value.{Value}
use Rattle.hy_bound.specs.declared.Grouped.{Grouped}
use Rattle.hy_bound.specs.Predicate.{column_of}
use Rattle.hy_bound.specs.Projection.{spread}
use Rattle.hy_meaning.specs.Statement.{Table}
use Rattle.hy_meaning.specs.Totals.{groups_of}
use Rattle.hy_plan.specs.Cells.{GatheredRows}
use Rattle.hy_gathered.specs.Groups.{groups_by}
use Rattle.hy_gathered.specs.Pieces.{rows_in_pieces}
use Rattle.hy_gathered.specs.Shares.{run_of}
use Rattle.hy_gathered.specs.Tally.{amount_of, with_amount}
use Rattle.hy_gathered.specs.declared.tally.Grouping.{Grouping}
use Rattle.hy_gathered.proofs.Grouped.{groups_more}
use Rattle.hy_gathered.proofs.Shared.{run_next}
use Rattle.hy_gathered.proofs.Piled.{pieces_taken}

-- a row of gathered ones, as a row of its table
abbrev row_by : Grouping → List Value → List Value
row_by grouping row = spread grouping.columns grouping.width row

counted_more : (grouping : Grouping) (rows : Table) (row : List Value)
    → groups_by grouping (rows ++ row ∷ []) ≡ with_amount (groups_by grouping rows) (column_of (row_by grouping row) grouping.key)
    (amount_of grouping.aggregate (row_by grouping row))
counted_more grouping rows row =
    ap (groups_of grouping.key grouping.aggregate) (map-append (row_by grouping) rows (row ∷ []))
    ∙ groups_more grouping.key grouping.aggregate (map (row_by grouping) rows) (row_by grouping row)

-- a row more is counted
pub row_counted : (grouping : Grouping) (rows piece : Table) (from index : ℕ) (value : Value) (amount : ℤ) (groups next : List Grouped) → from ≤ index
    → index < length piece → groups ≡ groups_by grouping (rows ++ run_of from index piece)
    → value ≡ column_of (row_by grouping (get_or piece index [])) grouping.key
    → amount ≡ amount_of grouping.aggregate (row_by grouping (get_or piece index [])) → next ≡ with_amount groups value amount
    → next ≡ groups_by grouping (rows ++ run_of from (index + 1) piece)
row_counted grouping rows piece from index value amount groups next order below so key adds more =
    let row : List Value = get_or piece index [] in
    let before : Table = rows ++ run_of from index piece in
    more
    ∙ (ap (λ (those : List Grouped). with_amount those value amount) so
    ∙ (ap (λ (v : Value). with_amount (groups_by grouping before) v amount) key
    ∙ (ap (λ (z : ℤ). with_amount (groups_by grouping before) (column_of (row_by grouping row) grouping.key) z) adds
    ∙ (sym (counted_more grouping before row)
    ∙ ap (groups_by grouping) (append_assoc rows (run_of from index piece) (row ∷ [])
    ∙ ap (λ (those : Table). rows ++ those) (sym (run_next piece from index order below)))))))

-- a piece more is counted
pub piece_counted : (grouping : Grouping) (rows : Table) (pieces : List GatheredRows) (index : ℕ) (piece : GatheredRows) (next : List Grouped)
    → index < length pieces → piece ≡ get_or pieces index piece → next ≡ groups_by grouping ((rows ++ rows_in_pieces (take index pieces)) ++ piece.rows)
    → next ≡ groups_by grouping (rows ++ rows_in_pieces (take (index + 1) pieces))
piece_counted grouping rows pieces index piece next below is so =
    so
    ∙ ap (groups_by grouping) (append_assoc rows (rows_in_pieces (take index pieces)) piece.rows
    ∙ ap (λ (those : Table). rows ++ those) (sym (pieces_taken pieces index piece below is)))
