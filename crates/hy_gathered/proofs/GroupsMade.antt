-- Rows that are made of others have the same groups where they agree on the grouped and the summed column.
use Rattle.std.proofs.Common.{◌≡◌, ℕ, List, [], ◌∷◌, refl, ap, ◌∙◌}
use Rattle.std.specs.Prelude.{Bool, true, false, cond, ℤ, pos, ◌+ℤ◌, map, filter}
use Rattle.std.specs.List.{AllByRecursion}
use Rattle.std.specs.Ordering.{is_eq}
use Rattle.std.proofs.lemmas.List.{length-map}
use Rattle.hy_value.specs.declared.Value.{Value}
use Rattle.hy_value.specs.Order.{value_cmp}
use Rattle.hy_value.specs.Sorted.{distinct}
use Rattle.hy_bound.specs.declared.Aggregate.{Aggregate}
use Rattle.hy_bound.specs.declared.Aggregate.TheVariants.{Count, Sum}
use Rattle.hy_bound.specs.declared.Grouped.{Grouped}
use Rattle.hy_bound.specs.Predicate.{column_of}
use Rattle.hy_bound.specs.Records.{columns_summed}
use Rattle.hy_bound.specs.Agreement.{Agree}
use Rattle.hy_bound.specs.Truths.{each_weaker}
use Rattle.hy_meaning.specs.Statement.{Table}
use Rattle.hy_meaning.specs.Totals.{added_of, sum_of, total_of, values_of, is_at_of, group_at, groups_of}

abbrev pub Row : Type 0
Row = List Value

-- what is made of each row has the row's values in these columns
abbrev pub KeepColumns : (Row → Row) → List ℕ → Table → Type 0
KeepColumns make columns rows = AllByRecursion (λ row. Agree columns (make row) row) rows

-- what holds of each row holds of each that is kept
pub each_kept : (P : Row → Type 0) (keeps : Row → Bool) (rows : Table) → AllByRecursion P rows → AllByRecursion P (filter keeps rows)
each_kept P keeps [] each = tt
each_kept P keeps (row ∷ rows) each = by_test (keeps row) (each_kept P keeps rows each.1)
  where
    by_test : (b : Bool) → AllByRecursion P (filter keeps rows) → AllByRecursion P (cond b (row ∷ filter keeps rows) (filter keeps rows))
    by_test true later = (each.0, later)
    by_test false later = later

-- the first of the columns has the same values
values_made : (make : Row → Row) (key : ℕ) (others : List ℕ) (rows : Table) → KeepColumns make (key ∷ others) rows
    → map (λ row. column_of row key) (map make rows) ≡ map (λ row. column_of row key) rows
values_made make key others [] same = refl
values_made make key others (row ∷ rows) same =
    ap (λ (v : Value). v ∷ map (λ (r : Row). column_of r key) (map make rows)) same.0.0
    ∙ ap (λ (vs : List Value). column_of row key ∷ vs) (values_made make key others rows same.1)

-- the rows of a group are made of those of the same group
group_rows_made : (make : Row → Row) (key : ℕ) (others : List ℕ) (value : Value) (rows : Table) → KeepColumns make (key ∷ others) rows
    → filter (is_at_of key value) (map make rows) ≡ map make (filter (is_at_of key value) rows)
group_rows_made make key others value [] same = refl
group_rows_made make key others value (row ∷ rows) same =
    ap (λ (v : Value). cond (is_eq (value_cmp v value)) (make row ∷ of_made) of_made) same.0.0
    ∙ by_test (is_at_of key value row) (group_rows_made make key others value rows same.1)
  where
    of_made : Table
    of_made = filter (is_at_of key value) (map make rows)

    of_rows : Table
    of_rows = filter (is_at_of key value) rows

    by_test : (b : Bool) → of_made ≡ map make of_rows → cond b (make row ∷ of_made) of_made ≡ map make (cond b (row ∷ of_rows) of_rows)
    by_test true later = ap (λ (rs : Table). make row ∷ rs) later
    by_test false later = later

sum_made : (make : Row → Row) (column : ℕ) (rows : Table) → KeepColumns make (column ∷ []) rows
    → sum_of column (map make rows) ≡ sum_of column rows
sum_made make column [] same = refl
sum_made make column (row ∷ rows) same =
    ap (λ (v : Value). added_of v +ℤ sum_of column (map make rows)) same.0.0
    ∙ ap (λ (z : ℤ). added_of (column_of row column) +ℤ z) (sum_made make column rows same.1)

-- the total is the same
total_made : (aggregate : Aggregate) (make : Row → Row) (rows : Table) → KeepColumns make (columns_summed aggregate) rows
    → total_of aggregate (map make rows) ≡ total_of aggregate rows
total_made Count make rows same = ap pos (length-map rows make)
total_made (Sum column) make rows same = sum_made make column rows same

-- a group of rows that are made is that of the rows
group_made : (make : Row → Row) (key : ℕ) (aggregate : Aggregate) (rows : Table) (value : Value)
    → KeepColumns make (key ∷ columns_summed aggregate) rows → group_at key aggregate (map make rows) value ≡ group_at key aggregate rows value
group_made make key aggregate rows value same =
    let summed : List ℕ = columns_summed aggregate in
    let those : Table = filter (is_at_of key value) rows in
    let kept : KeepColumns make (key ∷ summed) those = each_kept (λ row. Agree (key ∷ summed) (make row) row) (is_at_of key value) rows same in
    let group : ℤ → Grouped = λ total. record { value = value; total = total } in
    ap group
    (ap (total_of aggregate) (group_rows_made make key summed value rows same)
    ∙ total_made aggregate make those
    (each_weaker (λ row. Agree (key ∷ summed) (make row) row) (λ row. Agree summed (make row) row) those (λ row agree. agree.1) kept))

each_group : (one other : Value → Grouped) (values : List Value) → ((value : Value) → one value ≡ other value) → map one values ≡ map other values
each_group one other [] same = refl
each_group one other (value ∷ values) same =
    ap (λ (g : Grouped). g ∷ map one values) (same value) ∙ ap (λ (gs : List Grouped). other value ∷ gs) (each_group one other values same)

-- all groups are
pub groups_made : (make : Row → Row) (key : ℕ) (aggregate : Aggregate) (rows : Table) → KeepColumns make (key ∷ columns_summed aggregate) rows
    → groups_of key aggregate (map make rows) ≡ groups_of key aggregate rows
groups_made make key aggregate rows same =
    ap (λ (vs : List Value). map (group_at key aggregate (map make rows)) (distinct vs)) (values_made make key (columns_summed aggregate) rows same)
    ∙ each_group (group_at key aggregate (map make rows)) (group_at key aggregate rows) (values_of key rows)
    (λ value. group_made make key aggregate rows value same)
