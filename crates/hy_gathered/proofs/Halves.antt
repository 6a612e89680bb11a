-- Sums of numbers by their halves, and of a column whose values are all numbers.
use Rattle.std.proofs.Common.{◌≡◌, ℕ, ◌+◌, ◌*◌, ◌/◌, ◌%◌, ◌^◌, ◌<◌, ◌≤◌, List, [], ◌∷◌, map, length, get_or, drop, ap, sym, ◌∙◌, refl, arith, ℤ, pos, ◌+ℤ◌, Some, of_z, w64, FitsSigned}
use Rattle.std.proofs.lemmas.Int.{ints}
use Rattle.std.proofs.lemmas.List.{drop_all, drop_more}
use Rattle.hy_value.specs.declared.Value.{Value}
use Rattle.hy_value.specs.declared.Value.TheVariants.{Int, Null}
use Rattle.hy_bound.specs.Predicate.{column_of}
use Rattle.hy_meaning.specs.Statement.{Table}
use Rattle.hy_meaning.specs.Totals.{added_of}
use Rattle.hy_gathered.specs.Numbers.{total}
use Rattle.hy_gathered.specs.Sums.{sum_by, value_in}
use Rattle.hy_gathered.specs.declared.sums.PartColumn.{PartColumn}
use Rattle.hy_gathered.proofs.Placed.{stands_at}

-- a number that is moved up by 2^63 is not negative
pub moved_up : (number : ℤ) → FitsSigned w64 number → pos ((of_z w64 number + 2 ^ 63) % 2 ^ 64) ≡ number +ℤ pos (2 ^ 63)
moved_up number fits = grind (arith, ints)

-- one number more, by its halves
pub halves_more : (numbers : List ℤ) (index low high moved : ℕ) (number : ℤ) → index < length numbers → number ≡ get_or numbers index (pos 0)
    → pos moved ≡ number +ℤ pos (2 ^ 63)
    → pos (low + 2 ^ 32 * high) +ℤ total (drop index numbers) ≡ total numbers +ℤ pos (2 ^ 63 * index)
    → pos ((low + moved % 2 ^ 32) + 2 ^ 32 * (high + moved / 2 ^ 32)) +ℤ total (drop (index + 1) numbers) ≡ total numbers +ℤ pos (2 ^ 63 * (index + 1))
halves_more numbers index low high moved number below is up so =
    let first : total (drop index numbers) ≡ number +ℤ total (drop (index + 1) numbers) =
    ap total (drop_more numbers index (pos 0) below) ∙ ap (λ (n : ℤ). n +ℤ total (drop (index + 1) numbers)) (sym is) in
    omega (arith, ints, first, up, so)

-- behind the last number nothing is left to add
pub halves_done : (numbers : List ℤ) (index low high : ℕ) → length numbers ≤ index
    → pos (low + 2 ^ 32 * high) +ℤ total (drop index numbers) ≡ total numbers +ℤ pos (2 ^ 63 * index)
    → pos (low + 2 ^ 32 * high) ≡ total numbers +ℤ pos (2 ^ 63 * index)
halves_done numbers index low high none so =
    let nothing : total (drop index numbers) ≡ pos 0 = ap total (drop_all index numbers none) in
    omega (arith, ints, nothing, so)

-- the sum of the numbers that a column has is that of the column
pub total_is : (column : PartColumn) (place : ℕ) (numbers : List ℤ) (rows : Table) → column.place ≡ Some place
    → map Int numbers ≡ map (λ row. column_of row place) rows → total numbers ≡ sum_by column rows
total_is column place [] [] stands same = refl
total_is column place [] (row ∷ rows) stands same = absurd (let e = ap (λ (vs : List Value). length vs) same in omega (arith, e))
total_is column place (number ∷ numbers) [] stands same = absurd (let e = ap (λ (vs : List Value). length vs) same in omega (arith, e))
total_is column place (number ∷ numbers) (row ∷ rows) stands same =
    let first : number ≡ added_of (value_in column row) =
    ap added_of (ap (λ (vs : List Value). get_or vs 0 Null) same ∙ stands_at column (Some place) row stands) in
    let rest = total_is column place numbers rows stands (ap (drop 1) same) in
    (λ i. first i +ℤ rest i)

pub as_many : (place : ℕ) (numbers : List ℤ) (rows : Table) → map Int numbers ≡ map (λ row. column_of row place) rows → length numbers ≡ length rows
as_many place [] [] same = refl
as_many place [] (row ∷ rows) same = absurd (let e = ap (λ (vs : List Value). length vs) same in omega (arith, e))
as_many place (number ∷ numbers) [] same = absurd (let e = ap (λ (vs : List Value). length vs) same in omega (arith, e))
as_many place (number ∷ numbers) (row ∷ rows) same = let rest = as_many place numbers rows (ap (drop 1) same) in omega (arith, rest)
