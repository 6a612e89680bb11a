-- Rows of at most 32 columns, of which every column is taken, and read back.
use Rattle.std.proofs.Common.{◌≡◌, ℕ, zero, suc, ◌+◌, ◌<◌, ◌≤◌, List, [], ◌∷◌, Bool}
use Rattle.std.proofs.Common.{true, length, refl, sym, ap, ◌∙◌, arith, inl, inr}
use Rattle.std.specs.Prelude.{if◌then◌else◌}
use Rattle.std.specs.List.{list_all, range_with_len}
use Rattle.std.proofs.lemmas.Bool.{and_parts, cases_lt}
use Rattle.hy_value.specs.declared.Kind.{Kind}
use Rattle.hy_value.specs.declared.Value.{Value}
use Rattle.hy_value.specs.declared.Value.TheVariants.{Null}
use Rattle.hy_value.specs.Columns.{has_column}
use Rattle.hy_bound.specs.Projection.{projected, projected_from, spread, spread_from}
use Rattle.hy_chunk.specs.Sound.{FitsRow}
use Rattle.hy_chunk.specs.Views.{Whole}
use Rattle.hy_world.specs.Finished.{every_column, HasWidth}

-- ---- every column is taken

passes : (test : ℕ → Bool) (first count n : ℕ) → list_all test (range_with_len first count) ≡ true → first ≤ n → n < first + count → test n ≡ true
passes test first zero n e low high = absurd (omega arith)
passes test first (suc count) n e low high =
    let parts = and_parts (test first) (list_all test (range_with_len (first + 1) count)) e in
    elim (cases_lt first n) [
      | inl h ↦ passes test (first + 1) count n parts.1 (omega arith) (omega arith)
      | inr h ↦ let same : first ≡ n = omega arith in ap test (sym same) ∙ parts.0
    ]

has_every : (column : ℕ) → column < 32 → has_column every_column column ≡ true
has_every column h = passes (has_column every_column) 0 32 column refl (omega arith) (omega arith)

projected_every : (row : List Value) (column : ℕ) → column + length row ≤ 32 → projected_from every_column column row ≡ row
projected_every [] column h = refl
projected_every (value ∷ row) column h =
    let rest = projected_from every_column (suc column) row in
    ap (λ (has : Bool). if has then value ∷ rest else rest) (has_every column (omega arith))
    ∙ ap (λ (values : List Value). value ∷ values) (projected_every row (suc column) (omega arith))

spread_every : (row : List Value) (column width : ℕ) → length row ≡ width → column + width ≤ 32 → spread_from every_column column width row ≡ row
spread_every [] column zero e h = refl
spread_every [] column (suc width) e h = absurd (omega arith)
spread_every (value ∷ row) column zero e h = absurd (omega arith)
spread_every (value ∷ row) column (suc width) e h =
    let taken = value ∷ spread_from every_column (suc column) width row in
    let passed = Null ∷ spread_from every_column (suc column) width (value ∷ row) in
    ap (λ (has : Bool). if has then taken else passed) (has_every column (omega arith))
    ∙ ap (λ (values : List Value). value ∷ values) (spread_every row (suc column) width (omega arith) (omega arith))

-- a row that is taken and read back is the row
pub row_back : (row : List Value) (width : ℕ) → length row ≡ width → width ≤ 32 → spread every_column width (projected every_column row) ≡ row
row_back row width e h =
    ap (spread every_column width) (projected_every row 0 (omega arith)) ∙ spread_every row 0 width e (omega arith)

-- ---- rows of a chunk's types

fits_long : (kinds : List Kind) (row : List Value) → FitsRow kinds row → length row ≡ length kinds
fits_long [] [] h = refl
fits_long [] (value ∷ row) h = absurd h
fits_long (kind ∷ kinds) [] h = absurd h
fits_long (kind ∷ kinds) (value ∷ row) h = ap suc (fits_long kinds row h.1)

pub has_width : (part : Whole) (kinds : List Kind) (width : ℕ) → part.kinds ≡ kinds → length kinds ≡ width → width ≤ 32 → HasWidth width part
has_width part kinds width types e few = λ row fits.
    let long : length row ≡ width = fits_long part.kinds row fits ∙ (ap length types ∙ e) in
    ap length (projected_every row 0 (omega arith)) ∙ long
