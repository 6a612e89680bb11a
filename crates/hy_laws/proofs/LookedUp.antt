-- What is looked up for a plan, as rows of the tables, is what is gathered of these rows by restrictions alone.
use Rattle.std.proofs.Common.{◌≡◌, ℕ, ◌+◌, suc, List, [], ◌∷◌, ◌++◌, length, refl, ap, sym, ◌∙◌, subst}
use Rattle.std.specs.Prelude.{Bool, true, false, cond, if◌then◌else◌, Option, map, filter, slice_get, drop}
use Rattle.std.specs.List.{AllByRecursion}
use Rattle.std.proofs.lemmas.Bool.{and_parts}
use Rattle.hy_value.specs.declared.Value.{Value}
use Rattle.hy_value.specs.declared.Value.TheVariants.{Null}
use Rattle.hy_value.specs.declared.ColMask.{ColMask}
use Rattle.hy_value.specs.Columns.{has_column}
use Rattle.hy_bound.specs.declared.On.{On}
use Rattle.hy_bound.specs.declared.Shape.{Shape}
use Rattle.hy_bound.specs.Condition.{Condition}
use Rattle.hy_bound.specs.Predicate.{truth_of}
use Rattle.hy_bound.specs.Projection.{masked_from, masked, projected}
use Rattle.hy_bound.specs.Records.{columns_of, shape_of}
use Rattle.hy_bound.specs.Agreement.{Among, HaveWidth, FitTables}
use Rattle.hy_bound.specs.Masks.{masked_length}
use Rattle.hy_bound.specs.Truths.{each_weaker}
use Rattle.hy_meaning.specs.Statement.{Table}
use Rattle.hy_plan.specs.declared.PlanPart.{PlanPart}
use Rattle.hy_plan.specs.Plans.{part_of, parts_from}
use Rattle.hy_plan.specs.Reads.{columns_over}
use Rattle.hy_gathered.specs.Answers.{spread_all}
use Rattle.hy_laws.specs.Gathered.{gathered_of}
use Rattle.hy_laws.specs.Lookups.{is_wanted, is_gathered, gathered_for, spread_of, looked_up_behind}
use Rattle.hy_laws.proofs.Spread.{Row, each_kept, rows_spread}
use Rattle.hy_laws.proofs.Restricted.{restriction_kept}

masked_once : (b : Bool) (value : Value) → (if b then (if b then value else Null) else Null) ≡ (if b then value else Null)
masked_once true value = refl
masked_once false value = refl

masked_twice : (mask : ColMask) (column : ℕ) (row : Row) → masked_from mask column (masked_from mask column row) ≡ masked_from mask column row
masked_twice mask column [] = refl
masked_twice mask column (value ∷ row) =
    ap (λ v. v ∷ masked_from mask (suc column) (masked_from mask (suc column) row)) (masked_once (has_column mask column) value)
    ∙ ap (λ vs. (if has_column mask column then value else Null) ∷ vs) (masked_twice mask (suc column) row)

-- a row as it is gathered for a part, NULL in the other columns: the part's condition is true of it, and gathered again it is
-- the same
abbrev IsMade : Condition → ℕ → ColMask → Row → Type 0
IsMade condition width mask row = (length row ≡ width) × (truth_of condition row ≡ true) × (masked mask row ≡ row)

-- such rows are gathered as they are by the part's condition
made_again : (condition : Condition) (width : ℕ) (mask : ColMask) (rows : Table) → AllByRecursion (IsMade condition width mask) rows
    → map (masked mask) (filter (truth_of condition) rows) ≡ rows
made_again condition width mask [] made = refl
made_again condition width mask (row ∷ rows) made =
    ap (λ b. map (masked mask) (cond b (row ∷ filter (truth_of condition) rows) (filter (truth_of condition) rows))) made.0.1
    ∙ (ap (λ (r : Row). r ∷ map (masked mask) (filter (truth_of condition) rows)) made.0.2
    ∙ ap (λ (rs : Table). row ∷ rs) (made_again condition width mask rows made.1))

made_each : (part : PlanPart) (earlier : List (List Value)) (rows : Table) → HaveWidth part.width rows
    → ((row : Row) → length row ≡ part.width → truth_of part.pred (masked part.columns row) ≡ truth_of part.pred row)
    → AllByRecursion (IsMade part.pred part.width part.columns) (map (masked part.columns) (filter (is_gathered part earlier) rows))
made_each part earlier [] fits kept = tt
made_each part earlier (row ∷ rows) fits kept = by_test (is_gathered part earlier row) refl (made_each part earlier rows fits.1 kept)
  where
    others : Table
    others = filter (is_gathered part earlier) rows

    by_test : (b : Bool) → is_gathered part earlier row ≡ b → AllByRecursion (IsMade part.pred part.width part.columns) (map (masked part.columns) others)
        → AllByRecursion (IsMade part.pred part.width part.columns) (map (masked part.columns) (cond b (row ∷ others) others))
    by_test true is later = (
      (
        masked_length part.columns row ∙ fits.0,
        kept row fits.0 ∙ (and_parts (truth_of part.pred row) (is_wanted part.lookup earlier row) is).0,
        masked_twice part.columns 0 row,
      ),
      later,
    )
    by_test false is later = later

-- the rows gathered for a part
part_made : (part : PlanPart) (earlier : List (List Value)) (rows : Table) → HaveWidth part.width rows
    → ((row : Row) → length row ≡ part.width → truth_of part.pred (masked part.columns row) ≡ truth_of part.pred row)
    → AllByRecursion (IsMade part.pred part.width part.columns) (spread_of part (gathered_for part earlier rows))
part_made part earlier rows fits kept =
    subst (AllByRecursion (IsMade part.pred part.width part.columns))
    (sym (rows_spread part.columns part.width (filter (is_gathered part earlier) rows)
    (each_kept (λ row. length row ≡ part.width) (is_gathered part earlier) rows fits)))
    (made_each part earlier rows fits kept)

-- tables fit, and are what is gathered of them by the restrictions alone
abbrev IsGatheredAgain : List Shape → List ℕ → List PlanPart → List Table → Type 0
IsGatheredAgain shapes numbers parts tables = FitTables shapes numbers tables × (spread_all parts (gathered_of parts tables) ≡ tables)

-- so is what is looked up
pub looked_up_again : (shapes : List Shape) (cs : List Condition) (named : List ℕ) → AllByRecursion (λ c. Among named (columns_of c)) cs
    → (from : ℕ) (earlier : List (List Value)) (on : Option On) (ons : List On) (numbers : List ℕ) (tables : List Table) → FitTables shapes numbers tables
    → IsGatheredAgain shapes numbers (parts_from shapes cs named from on ons numbers)
    (spread_all (parts_from shapes cs named from on ons numbers) (looked_up_behind earlier (parts_from shapes cs named from on ons numbers) tables))
looked_up_again shapes cs named among from earlier on ons [] [] fits = (tt, refl)
looked_up_again shapes cs named among from earlier on ons [] (rows ∷ tables) fits = absurd fits
looked_up_again shapes cs named among from earlier on ons (number ∷ numbers) [] fits = absurd fits
looked_up_again shapes cs named among from earlier on ons (number ∷ numbers) (rows ∷ tables) fits =
    let width : ℕ = (shape_of shapes number).width in
    let part : PlanPart = part_of (shape_of shapes number) number from on cs named in
    let others : List PlanPart = parts_from shapes cs named (from + width) (slice_get ons 0) (drop 1 ons) numbers in
    let now : Table = spread_of part (gathered_for part earlier rows) in
    let more : List (List Value) = earlier ++ columns_over width now in
    let rest : List Table = spread_all others (looked_up_behind more others tables) in
    let made : AllByRecursion (IsMade part.pred width part.columns) now =
    part_made part earlier rows fits.0.1 (λ row fit. restriction_kept from width cs named row fits.0.0 fit among) in
    let wide : HaveWidth width now = each_weaker (IsMade part.pred width part.columns) (λ row. length row ≡ width) now (λ row is. is.0) made in
    let later = looked_up_again shapes cs named among (from + width) more (slice_get ons 0) (drop 1 ons) numbers tables fits.1 in
    let again : spread_of part (map (projected part.columns) (filter (truth_of part.pred) now)) ≡ now =
    rows_spread part.columns width (filter (truth_of part.pred) now) (each_kept (λ row. length row ≡ width) (truth_of part.pred) now wide)
    ∙ made_again part.pred width part.columns now made in (
      ((fits.0.0, wide), later.0),
      ap (λ (rs : Table). rs ∷ spread_all others (gathered_of others rest)) again ∙ ap (λ (ts : List Table). now ∷ ts) later.1,
    )
