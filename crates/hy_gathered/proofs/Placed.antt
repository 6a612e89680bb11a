-- Where the column of a spread row stands among the values that were spread.
use Rattle.std.proofs.Common.{◌≡◌, ℕ, zero, suc, ◌+◌, ◌-◌, ◌<◌, ◌≤◌, Bool, true, false, cond, List, [], ◌∷◌, refl, ap, sym, ◌∙◌, arith, Option, add-one, add-zero, zero-add}
use Rattle.std.specs.Prelude.{◌&&◌, nat_lt, None, Some}
use Rattle.std.proofs.lemmas.Bool.{ltb-false, ltb-true}
use Rattle.hy_value.specs.declared.Value.{Value}
use Rattle.hy_value.specs.declared.Value.TheVariants.{Null}
use Rattle.hy_value.specs.declared.ColMask.{ColMask}
use Rattle.hy_value.specs.Columns.{has_column}
use Rattle.hy_bound.specs.Predicate.{column_of}
use Rattle.hy_bound.specs.Projection.{spread, spread_from}
use Rattle.hy_gathered.specs.Columns.{columns_below, columns_from, place_of, value_at}
use Rattle.hy_gathered.specs.Sums.{value_in}
use Rattle.hy_gathered.specs.declared.sums.PartColumn.{PartColumn}

-- ---- counting on

step : (mask : ColMask) (column width : ℕ) (b : Bool) → column < width → has_column mask column ≡ b
    → columns_from mask column (width - column)
    ≡ cond b (suc (columns_from mask (column + 1) (width - (column + 1)))) (columns_from mask (column + 1) (width - (column + 1)))
step mask column width b within is =
    let left : width - column ≡ suc (width - (column + 1)) = omega arith in
    let behind : ℕ → ℕ = λ c. columns_from mask c (width - (column + 1)) in
    ap (columns_from mask column) left
    ∙ (ap (λ (t : Bool). cond t (suc (behind (suc column))) (behind (suc column))) is
    ∙ ap (λ (c : ℕ). cond b (suc (behind c)) (behind c)) (sym (add-one column)))

-- one more, where the set has the column
pub counts_one : (mask : ColMask) (width column count all : ℕ) → column < width → has_column mask column ≡ true
    → count + columns_from mask column (width - column) ≡ all → (count + 1) + columns_from mask (column + 1) (width - (column + 1)) ≡ all
counts_one mask width column count all within is so = let e = step mask column width true within is in omega (arith, e, so)

-- and no more, where it doesn't
pub counts_none : (mask : ColMask) (width column count all : ℕ) → column < width → has_column mask column ≡ false
    → count + columns_from mask column (width - column) ≡ all → count + columns_from mask (column + 1) (width - (column + 1)) ≡ all
counts_none mask width column count all within is so = let e = step mask column width false within is in omega (arith, e, so)

-- behind the last column all are counted
pub counts_all : (mask : ColMask) (column count left all : ℕ) → left ≡ 0 → count + columns_from mask column left ≡ all → count ≡ all
counts_all mask column count left all none so =
    sym (add-zero count) ∙ (ap (λ (n : ℕ). count + columns_from mask column n) (sym none) ∙ so)

-- ---- a column of a row that is given by those values

-- without values it is NULL
of_nothing : (mask : ColMask) (column width i : ℕ) → column_of (spread_from mask column width []) i ≡ Null
of_nothing mask column zero i = refl
of_nothing mask column (suc width) zero = refl
of_nothing mask column (suc width) (suc i) = of_nothing mask (suc column) width i

-- one column on, whether the set has the first one or not
next_column : (b : Bool) (value other : Value) (with_it without : List Value) (i : ℕ) (there : Value) → column_of with_it i ≡ there → column_of without i ≡ there
    → column_of (cond b (value ∷ with_it) (other ∷ without)) (suc i) ≡ there
next_column true value other with_it without i there one two = one
next_column false value other with_it without i there one two = two

-- a column outside the set is NULL
outside : (mask : ColMask) (width column i : ℕ) (values : List Value) → has_column mask (column + i) ≡ false
    → column_of (spread_from mask column width values) i ≡ Null
outside mask zero column i values h = refl
outside mask (suc width) column i [] h = of_nothing mask column (suc width) i
outside mask (suc width) column zero (value ∷ values) h =
    ap (λ (b : Bool). column_of (cond b (value ∷ spread_from mask (suc column) width values) (Null ∷ spread_from mask (suc column) width (value ∷ values))) 0)
    (ap (has_column mask) (sym (add-zero column)) ∙ h)
outside mask (suc width) column (suc i) (value ∷ values) h =
    let same : suc column + i ≡ column + suc i = omega arith in
    let there : has_column mask (suc column + i) ≡ false = ap (has_column mask) same ∙ h in
    next_column (has_column mask column) value Null (spread_from mask (suc column) width values) (spread_from mask (suc column) width (value ∷ values)) i Null
    (outside mask width (suc column) i values there) (outside mask width (suc column) i (value ∷ values) there)

-- so is one that isn't there
past : (mask : ColMask) (width column i : ℕ) (values : List Value) → width ≤ i → column_of (spread_from mask column width values) i ≡ Null
past mask zero column i values h = refl
past mask (suc width) column i [] h = of_nothing mask column (suc width) i
past mask (suc width) column zero (value ∷ values) h = absurd (omega arith)
past mask (suc width) column (suc i) (value ∷ values) h =
    next_column (has_column mask column) value Null (spread_from mask (suc column) width values) (spread_from mask (suc column) width (value ∷ values)) i Null
    (past mask width (suc column) i values (omega arith)) (past mask width (suc column) i (value ∷ values) (omega arith))

-- the values behind the first columns
counted_step : (b : Bool) (value : Value) (values with_it without : List Value) (i count : ℕ) → column_of with_it i ≡ column_of values count
    → column_of without i ≡ column_of (value ∷ values) count
    → column_of (cond b (value ∷ with_it) (Null ∷ without)) (suc i) ≡ column_of (value ∷ values) (cond b (suc count) count)
counted_step true value values with_it without i count one two = one
counted_step false value values with_it without i count one two = two

-- one of the set has the value behind those of the columns before it
inside : (mask : ColMask) (width column i : ℕ) (values : List Value) → i < width → has_column mask (column + i) ≡ true
    → column_of (spread_from mask column width values) i ≡ column_of values (columns_from mask column i)
inside mask zero column i values within h = absurd (omega arith)
inside mask (suc width) column i [] within h = of_nothing mask column (suc width) i
inside mask (suc width) column zero (value ∷ values) within h =
    ap (λ (b : Bool). column_of (cond b (value ∷ spread_from mask (suc column) width values) (Null ∷ spread_from mask (suc column) width (value ∷ values))) 0)
    (ap (has_column mask) (sym (add-zero column)) ∙ h)
inside mask (suc width) column (suc i) (value ∷ values) within h =
    let same : suc column + i ≡ column + suc i = omega arith in
    let there : has_column mask (suc column + i) ≡ true = ap (has_column mask) same ∙ h in
    counted_step (has_column mask column) value values (spread_from mask (suc column) width values) (spread_from mask (suc column) width (value ∷ values)) i
    (columns_from mask (suc column) i) (inside mask width (suc column) i values (omega arith) there)
    (inside mask width (suc column) i (value ∷ values) (omega arith) there)

-- ---- where a column stands

module _ (mask : ColMask) (width column : ℕ) where
  pub placed : (place : ℕ) (row : List Value) → column < width → has_column mask column ≡ true → place ≡ columns_below mask column
      → column_of (spread mask width row) column ≡ column_of row place
  placed place row within is counted =
      inside mask width 0 column row within (ap (has_column mask) (zero-add column) ∙ is) ∙ ap (column_of row) (sym counted)

  pub not_placed : (row : List Value) → has_column mask column ≡ false → column_of (spread mask width row) column ≡ Null
  not_placed row none = outside mask width 0 column row (ap (has_column mask) (zero-add column) ∙ none)

  pub not_there : (row : List Value) → width ≤ column → column_of (spread mask width row) column ≡ Null
  not_there row none = past mask width 0 column row none

placed_if : (mask : ColMask) (width column : ℕ) (row : List Value) (b h : Bool) → nat_lt column width ≡ b → has_column mask column ≡ h
    → column_of (spread mask width row) column ≡ value_at (cond (b && h) (Some (columns_below mask column)) None) row
placed_if mask width column row true true low is = placed mask width column (columns_below mask column) row (ltb-true column width low) is refl
placed_if mask width column row true false low is = not_placed mask width column row is
placed_if mask width column row false h low is = not_there mask width column row (ltb-false column width low)

-- the value in a column of a row, by its place
pub value_placed : (mask : ColMask) (width column : ℕ) (row : List Value)
    → column_of (spread mask width row) column ≡ value_at (place_of mask width column) row
value_placed mask width column row = placed_if mask width column row (nat_lt column width) (has_column mask column) refl refl

pub stands_at : (column : PartColumn) (place : Option ℕ) (row : List Value) → column.place ≡ place → value_at place row ≡ value_in column row
stands_at column place row is =
    sym (value_placed column.columns column.width column.column row ∙ ap (λ (p : Option ℕ). value_at p row) (sym column.placed ∙ is))
