-- The tables before any commit have the first rows of the script, and these have the widths of their tables.
use Rattle.std.proofs.Common.{◌≡◌, ℕ, zero, suc, ◌+◌, ◌≤◌, List, [], ◌∷◌, None, Some, length, map, get_or, refl, ap, sym}
use Rattle.std.proofs.Common.{◌∙◌, subst, arith, zero-add}
use Rattle.std.specs.Prelude.{slice_get}
use Rattle.std.specs.List.{AllZip, range_with_len}
use Rattle.std.proofs.lemmas.List.Elements.{recursion_from_All}
use Rattle.hy_value.specs.declared.Value.{Value}
use Rattle.hy_value.specs.Sorted.{sorted}
use Rattle.hy_bound.specs.declared.Shape.{Shape}
use Rattle.hy_bound.specs.Agreement.{HaveWidth}
use Rattle.hy_bound.specs.Changes.{present}
use Rattle.hy_bound.specs.Fits.{FitsRows}
use Rattle.hy_bound.specs.Records.{no_shape}
use Rattle.hy_meaning.specs.Serial.{database_of}
use Rattle.hy_machine.specs.declared.Setting.{Setting}
use Rattle.hy_machine.specs.Tables.{Cell, capacity, laid_out, opening_tables}
use Rattle.hy_replay.specs.Laws.{HaveWidths, bags_of}

-- the positions from one on show these rows
present_from : (at : ℕ → Cell) (first positions : ℕ) (rows : List (List Value)) → ((i : ℕ) → at (first + i) ≡ slice_get rows i) → length rows ≤ positions
    → present (map at (range_with_len first positions)) ≡ rows
present_from at first zero [] h few = refl
present_from at first zero (row ∷ rows) h few = absurd (omega arith)
present_from at first (suc positions) [] h few =
    let here : at first ≡ None = subst (λ (n : ℕ). at n ≡ None) (let e : first + 0 ≡ first = omega arith in e) (h 0) in
    rw here (present_from at (first + 1) positions []
    (λ i. subst (λ (n : ℕ). at n ≡ None) (let e : first + suc i ≡ first + 1 + i = omega arith in e) (h (suc i))) (omega arith))
present_from at first (suc positions) (row ∷ rows) h few =
    let here : at first ≡ Some row = subst (λ (n : ℕ). at n ≡ Some row) (let e : first + 0 ≡ first = omega arith in e) (h 0) in
    rw here (ap (λ (more : List (List Value)). row ∷ more) (present_from at (first + 1) positions rows
    (λ i. subst (λ (n : ℕ). at n ≡ slice_get rows i) (let e : first + suc i ≡ first + 1 + i = omega arith in e) (h (suc i))) (omega arith)))

present_laid : (positions : ℕ) (rows : List (List Value)) → length rows ≤ positions → present (laid_out positions rows) ≡ rows
present_laid positions rows few = present_from (slice_get rows) 0 positions rows (λ i. ap (slice_get rows) (zero-add i)) few

bags_laid : (positions : ℕ) (shapes : List Shape) (first : List (List (List Value))) → AllZip (FitsRows positions) shapes first
    → bags_of (map (laid_out positions) first) ≡ database_of first
bags_laid positions [] [] fit = refl
bags_laid positions [] (rows ∷ first) fit = absurd fit
bags_laid positions (shape ∷ shapes) [] fit = absurd fit
bags_laid positions (shape ∷ shapes) (rows ∷ first) fit =
    ap (λ (some : List (List Value)). sorted some ∷ bags_of (map (laid_out positions) first)) (present_laid positions rows fit.0.few)
    ∙ ap (λ (more : List (List (List Value))). sorted rows ∷ more) (bags_laid positions shapes first fit.1)

pub opening_bags : (setting : Setting) → AllZip (FitsRows (capacity setting)) setting.shapes setting.first
    → bags_of (opening_tables setting) ≡ database_of setting.first
opening_bags setting fit = bags_laid (capacity setting) setting.shapes setting.first fit

widths_laid : (positions : ℕ) (shapes : List Shape) (first : List (List (List Value))) → AllZip (FitsRows positions) shapes first → (table : ℕ)
    → HaveWidth (get_or shapes table no_shape).width (present (get_or (map (laid_out positions) first) table []))
widths_laid positions [] [] fit table = tt
widths_laid positions [] (rows ∷ first) fit table = absurd fit
widths_laid positions (shape ∷ shapes) [] fit table = absurd fit
widths_laid positions (shape ∷ shapes) (rows ∷ first) fit zero =
    subst (HaveWidth shape.width) (sym (present_laid positions rows fit.0.few))
    (recursion_from_All (λ (row : List Value). length row ≡ shape.width) rows fit.0.widths)
widths_laid positions (shape ∷ shapes) (rows ∷ first) fit (suc table) = widths_laid positions shapes first fit.1 table

pub opening_widths : (setting : Setting) → AllZip (FitsRows (capacity setting)) setting.shapes setting.first
    → HaveWidths setting.shapes (opening_tables setting)
opening_widths setting fit table = widths_laid (capacity setting) setting.shapes setting.first fit table
