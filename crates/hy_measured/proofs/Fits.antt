-- What fits two columns of numbers.
use Rattle.std.proofs.Common.{◌≡◌, ℕ, ℤ, List, [], ◌∷◌, ◌++◌, ◌∙◌, length, Some, refl, sym, ap, subst, arith, lit<}
use Rattle.hy_value.specs.declared.Value.{Value}
use Rattle.hy_value.specs.declared.Value.TheVariants.{Int}
use Rattle.hy_value.specs.declared.Kind.TheVariants as kind
use Rattle.hy_bound.specs.declared.Assign.{Assign}
use Rattle.hy_bound.specs.Expression.{Expression, Literal}
use Rattle.hy_bound.specs.Projection.{projected}
use Rattle.hy_column.specs.Cells.{FitsKind}
use Rattle.hy_chunk.specs.Sound.{FitsRow}
use Rattle.hy_chunk.specs.Writes.{FitsSets}
use Rattle.hy_measured.specs.Ready.{two_numbers}

pub pair_fits : (first second : ℤ) (row : List Value) → row ≡ Int first ∷ Int second ∷ [] → FitsRow two_numbers row
pair_fits first second row e = subst (FitsRow two_numbers) (sym e) (tt, (tt, tt))

pub set_fits : (bal : ℤ) → FitsSets two_numbers (Some 0) (record { column = 1; value = Literal (Int bal) } ∷ [])
set_fits bal = (
  record {
    column = lit< tt;
    typed = λ row value fits e. let same : Int bal ≡ value = cc in subst (FitsKind kind.Int) same tt;
    spares_key = λ e. let zero_is_one : ◌≡◌ {A = ℕ} 0 1 = cc in absurd (omega (arith, zero_is_one));
  },
  tt,
)

pub sets_fit : (bal : ℤ) (expression : Expression) (before sets : List Assign) → expression ≡ Literal (Int bal) → before ≡ []
    → sets ≡ before ++ record { column = 1; value = expression } ∷ []
    → FitsSets two_numbers (Some 0) sets
sets_fit bal expression before sets e b s =
    let of_one : Expression → List Assign = λ x. record { column = 1; value = x } ∷ [] in
    subst (FitsSets two_numbers (Some 0)) (sym (s ∙ (ap (λ (xs : List Assign). xs ++ of_one expression) b ∙ ap of_one e))) (set_fits bal)

pub second_column : (row : List Value) → FitsRow two_numbers row → length (projected (record { 0 = 2 }) row) ≡ 1
second_column [] fits = absurd fits
second_column (a ∷ []) fits = absurd fits.1
second_column (a ∷ b ∷ []) fits = refl
second_column (a ∷ b ∷ c ∷ more) fits = absurd fits.1.1
