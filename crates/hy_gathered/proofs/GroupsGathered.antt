-- What is told of the rows gathered for a SELECT with GROUP BY is its reply.
use Rattle.std.proofs.Common.{◌≡◌, ℕ, ◌+◌, ◌≤◌, List, [], ◌∷◌, length, refl, ap, ◌∙◌, subst, arith}
use Rattle.std.specs.Prelude.{true, map, filter}
use Rattle.hy_value.specs.declared.ColMask.{ColMask}
use Rattle.hy_bound.specs.declared.Reply.TheVariants.{Groups}
use Rattle.hy_bound.specs.Predicate.{column_of, truth_of}
use Rattle.hy_bound.specs.Projection.{projected, spread}
use Rattle.hy_bound.specs.Records.{columns_summed}
use Rattle.hy_bound.specs.Agreement.{Agree, is_named, Among}
use Rattle.hy_bound.specs.Masks.{spread_projected}
use Rattle.hy_bound.specs.Truths.{among_self, each_weaker}
use Rattle.hy_meaning.specs.Statement.{Table}
use Rattle.hy_meaning.specs.Totals.{groups_of}
use Rattle.hy_plan.specs.ColumnSets.{named_columns}
use Rattle.hy_plan.specs.Kept.{named_kept}
use Rattle.hy_gathered.specs.Unasked.{all_selected}
use Rattle.hy_gathered.specs.GroupLaws.{GatheredGroups}
use Rattle.hy_gathered.proofs.GroupsMade.{Row, each_kept, groups_made}

-- a row of a table, as it is when its named columns are gathered and spread again
abbrev spread_again : ℕ → List ℕ → Row → Row
spread_again width named row = spread (named_columns 0 width named) width (projected (named_columns 0 width named) row)

-- it keeps what is named
column_kept : (width : ℕ) (named : List ℕ) (row : Row) (column : ℕ) → width ≤ 32 → length row ≡ width → is_named named column ≡ true
    → column_of (spread_again width named row) column ≡ column_of row column
column_kept width named row column few fits is_of_them =
    let mask : ColMask = named_columns 0 width named in
    let P : ℕ → Type 0 = λ n. column_of (spread mask n (projected mask row)) column ≡ column_of row column in
    let e : column ≡ 0 + column = omega arith in
    let there : is_named named (0 + column) ≡ true = subst (λ (n : ℕ). is_named named n ≡ true) e is_of_them in
    subst P fits (ap (λ (r : Row). column_of r column) (spread_projected mask row) ∙ named_kept 0 width named row column fits few there)

columns_kept : (width : ℕ) (named columns : List ℕ) (row : Row) → width ≤ 32 → length row ≡ width → Among named columns
    → Agree columns (spread_again width named row) row
columns_kept width named [] row few fits among = tt
columns_kept width named (column ∷ columns) row few fits among =
    (column_kept width named row column few fits among.0, columns_kept width named columns row few fits among.1)

-- gathered rows, spread again
rows_spread : (width : ℕ) (named : List ℕ) (rows : Table)
    → map (spread (named_columns 0 width named) width) (map (projected (named_columns 0 width named)) rows) ≡ map (spread_again width named) rows
rows_spread width named [] = refl
rows_spread width named (row ∷ rows) = ap (λ (rs : Table). spread_again width named row ∷ rs) (rows_spread width named rows)

-- what is told of what is gathered is told of the table
pub gathered_groups : GatheredGroups
gathered_groups shape table pred key aggregate rows fits =
    let named : List ℕ = key ∷ columns_summed aggregate in
    let mask : ColMask = named_columns 0 shape.width named in
    let those : Table = filter (truth_of pred) rows in
    ap Groups
    (ap (groups_of key aggregate) (all_selected (map (spread mask shape.width) (map (projected mask) those)) ∙ rows_spread shape.width named those)
    ∙ groups_made (spread_again shape.width named) key aggregate those
    (each_weaker (λ row. length row ≡ shape.width) (λ row. Agree named (spread_again shape.width named row) row) those
    (λ row fit. columns_kept shape.width named named row fits.0 fit (among_self named))
    (each_kept (λ row. length row ≡ shape.width) (truth_of pred) rows fits.1)))
