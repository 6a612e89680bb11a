-- Rows that are gathered, as rows of their table.
use Rattle.std.proofs.Common.{◌≡◌, ℕ, List, [], ◌∷◌, refl, ap, ◌∙◌, subst}
use Rattle.std.specs.Prelude.{Bool, true, false, cond, map, filter}
use Rattle.std.specs.List.{AllByRecursion}
use Rattle.hy_value.specs.declared.Value.{Value}
use Rattle.hy_value.specs.declared.ColMask.{ColMask}
use Rattle.hy_bound.specs.Projection.{masked, projected, spread}
use Rattle.hy_bound.specs.Agreement.{HaveWidth}
use Rattle.hy_bound.specs.Masks.{spread_projected}
use Rattle.hy_meaning.specs.Statement.{Table}

abbrev pub Row : Type 0
Row = List Value

-- what holds of each row holds of each that is kept
pub each_kept : (P : Row → Type 0) (keeps : Row → Bool) (rows : Table) → AllByRecursion P rows → AllByRecursion P (filter keeps rows)
each_kept P keeps [] each = tt
each_kept P keeps (row ∷ rows) each = by_test (keeps row) (each_kept P keeps rows each.1)
  where
    by_test : (b : Bool) → AllByRecursion P (filter keeps rows) → AllByRecursion P (cond b (row ∷ filter keeps rows) (filter keeps rows))
    by_test true later = (each.0, later)
    by_test false later = later

-- tests that say the same of each row keep the same rows
pub same_kept : (p q : Row → Bool) (rows : Table) → ((row : Row) → p row ≡ q row) → filter p rows ≡ filter q rows
same_kept p q [] same = refl
same_kept p q (row ∷ rows) same =
    ap (λ b. cond b (row ∷ filter p rows) (filter p rows)) (same row) ∙ ap (λ (rs : Table). cond (q row) (row ∷ rs) rs) (same_kept p q rows same)

-- rows that were projected are spread to the masked rows
pub rows_spread : (mask : ColMask) (width : ℕ) (rows : Table) → HaveWidth width rows
    → map (spread mask width) (map (projected mask) rows) ≡ map (masked mask) rows
rows_spread mask width [] fits = refl
rows_spread mask width (row ∷ rows) fits =
    let P : ℕ → Type 0 = λ n. spread mask n (projected mask row) ≡ masked mask row in
    ap (λ (r : Row). r ∷ map (spread mask width) (map (projected mask) rows)) (subst P fits.0 (spread_projected mask row))
    ∙ ap (λ (rs : Table). masked mask row ∷ rs) (rows_spread mask width rows fits.1)
