-- Groups of rows, where a row more comes.
use Rattle.std.proofs.Common.{◌≡◌, ℕ, Bool, true, false, cond, List, [], ◌∷◌, ◌++◌, map, refl, ap, sym, ◌∙◌, subst, arith, ℤ, pos, ◌+ℤ◌, length-append}
use Rattle.std.specs.Prelude.{filter, ◌||◌}
use Rattle.std.specs.List.{AllByRecursion}
use Rattle.std.specs.List.Sorted.{IsStrictlySortedBy}
use Rattle.std.specs.Ordering.{is_eq, match_ordering}
use Rattle.std.specs.declared.cmp.Ordering.{Ordering}
use Rattle.std.specs.declared.cmp.Ordering.TheVariants.{Less, Equal, Greater}
use Rattle.std.proofs.lemmas.Cmp.{eq_by_cmp_equiv, tied_itself}
use Rattle.std.proofs.lemmas.Int.{ints}
use Rattle.std.proofs.lemmas.List.{map-append, append-nil}
use Rattle.std.proofs.lemmas.List.Elements.{filter-append}
use Rattle.hy_value.specs.declared.Value.{Value}
use Rattle.hy_value.specs.Order.{value_cmp}
use Rattle.hy_value.specs.Sorted.{distinct, is_one_of, with_value}
use Rattle.hy_value.specs.Distinct.{ascends_distinct, distinct-swap, one_of_distinct}
use Rattle.hy_value.specs.TotalOrder.{values_tie, values_total}
use Rattle.hy_bound.specs.declared.Aggregate.{Aggregate}
use Rattle.hy_bound.specs.declared.Aggregate.TheVariants.{Count, Sum}
use Rattle.hy_bound.specs.declared.Grouped.{Grouped}
use Rattle.hy_bound.specs.Predicate.{column_of}
use Rattle.hy_meaning.specs.Totals.{added_of, group_at, groups_of, is_at_of, sum_of, total_of, values_of}
use Rattle.hy_gathered.specs.Tally.{amount_of, group_of, with_amount}

-- ---- ascending values, and one of which the total changes

-- a value is below each of these
abbrev IsBelow : Value → List Value → Type 0
IsBelow value values = AllByRecursion (λ (other : Value). value_cmp value other ≡ Less) values

below_all : (value first : Value) (rest : List Value) → value_cmp value first ≡ Less → IsBelow first rest → IsBelow value rest
below_all value first [] less below = tt
below_all value first (next ∷ rest) less below = (values_total.trans value first next less below.0, below_all value first rest less below.1)

none_above : (value : Value) (values : List Value) → IsBelow value values → is_one_of values value ≡ false
none_above value [] below = refl
none_above value (first ∷ rest) below = ap (λ (o : Ordering). is_eq o || is_one_of rest value) below.0 ∙ none_above value rest below.1

module _ (value : Value) (amount : ℤ) (before after : Value → ℤ)
    (others : (other : Value) → is_eq (value_cmp value other) ≡ false → after other ≡ before other)
    (added : after value ≡ before value +ℤ amount) where
  abbrev then : Value → Grouped
  then v = group_of (v, before v)

  abbrev now : Value → Grouped
  now v = group_of (v, after v)

  kept : (values : List Value) → IsBelow value values → map now values ≡ map then values
  kept [] below = refl
  kept (first ∷ rest) below =
      ap (λ (z : ℤ). group_of (first, z) ∷ map now rest) (others first (ap is_eq below.0))
      ∙ ap (λ (groups : List Grouped). then first ∷ groups) (kept rest below.1)

  begins : before value ≡ pos 0 → after value ≡ amount
  begins none = omega (arith, ints, added, none)

  placed_if : (o : Ordering) (first : Value) (rest : List Value) → value_cmp value first ≡ o → IsStrictlySortedBy value_cmp (first ∷ rest)
      → (is_one_of (first ∷ rest) value ≡ false → before value ≡ pos 0)
      → ((is_one_of rest value ≡ false → before value ≡ pos 0) → map now (with_value rest value) ≡ with_amount (map then rest) value amount)
      → map now (match_ordering o (value ∷ first ∷ rest) (first ∷ rest) (first ∷ with_value rest value))
      ≡ match_ordering o (group_of (value, amount) ∷ map then (first ∷ rest)) (group_of (first, before first +ℤ amount) ∷ map then rest)
      (then first ∷ with_amount (map then rest) value amount)
  unfolding IsStrictlySortedBy
  placed_if Less first rest is ascends none more =
      let below : IsBelow value (first ∷ rest) = (is, below_all value first rest is ascends.0) in
      ap (λ (z : ℤ). group_of (value, z) ∷ map now (first ∷ rest)) (begins (none (none_above value (first ∷ rest) below)))
      ∙ ap (λ (groups : List Grouped). group_of (value, amount) ∷ groups) (kept (first ∷ rest) below)
  placed_if Equal first rest is ascends none more =
      let same : value ≡ first = values_tie value first is in
      let below : IsBelow value rest = subst (λ (v : Value). IsBelow v rest) (sym same) ascends.0 in
      ap (λ (z : ℤ). group_of (first, z) ∷ map now rest) (subst (λ (v : Value). after v ≡ before v +ℤ amount) same added)
      ∙ ap (λ (groups : List Grouped). group_of (first, before first +ℤ amount) ∷ groups) (kept rest below)
  placed_if Greater first rest is ascends none more =
      let same : after first ≡ before first = others first (ap is_eq is) in
      let alone : is_one_of rest value ≡ false → is_one_of (first ∷ rest) value ≡ false = λ h. ap (λ (o : Ordering). is_eq o || is_one_of rest value) is ∙ h in
      ap (λ (z : ℤ). group_of (first, z) ∷ map now (with_value rest value)) same
      ∙ ap (λ (groups : List Grouped). then first ∷ groups) (more (λ h. none (alone h)))

  placed_in : (values : List Value) → IsStrictlySortedBy value_cmp values → (is_one_of values value ≡ false → before value ≡ pos 0)
      → map now (with_value values value) ≡ with_amount (map then values) value amount
  unfolding IsStrictlySortedBy
  placed_in [] ascends none = ap (λ (z : ℤ). group_of (value, z) ∷ []) (begins (none refl))
  placed_in (first ∷ rest) ascends none = placed_if (value_cmp value first) first rest refl ascends none (placed_in rest ascends.1)

-- ---- a row more

distinct_more : (values : List Value) (value : Value) → distinct (values ++ value ∷ []) ≡ with_value (distinct values) value
distinct_more [] value = refl
distinct_more (first ∷ values) value = ap (λ (those : List Value). with_value those first) (distinct_more values value) ∙ distinct-swap first value values

sum_more : (column : ℕ) (rows : List (List Value)) (row : List Value)
    → sum_of column (rows ++ row ∷ []) ≡ sum_of column rows +ℤ added_of (column_of row column)
sum_more column [] row =
    let one : ℤ = added_of (column_of row column) in
    let e : one +ℤ pos 0 ≡ pos 0 +ℤ one = omega (arith, ints) in
    e
sum_more column (first ∷ rows) row =
    let more : sum_of column (rows ++ row ∷ []) ≡ sum_of column rows +ℤ added_of (column_of row column) = sum_more column rows row in
    let one : ℤ = added_of (column_of first column) in
    let e : one +ℤ sum_of column (rows ++ row ∷ []) ≡ (one +ℤ sum_of column rows) +ℤ added_of (column_of row column) = omega (arith, ints, more) in
    e

total_more : (aggregate : Aggregate) (rows : List (List Value)) (row : List Value)
    → total_of aggregate (rows ++ row ∷ []) ≡ total_of aggregate rows +ℤ amount_of aggregate row
total_more Count rows row = let e = length-append rows (row ∷ []) in omega (arith, ints, e)
total_more (Sum column) rows row = sum_more column rows row

total_none : (aggregate : Aggregate) → total_of aggregate [] ≡ pos 0
total_none Count = refl
total_none (Sum column) = refl

module _ (key : ℕ) (aggregate : Aggregate) (rows : List (List Value)) (row : List Value) where
  abbrev at : Value → List (List Value) → List (List Value)
  at value those = filter (is_at_of key value) those

  abbrev total_at : List (List Value) → Value → ℤ
  total_at those value = total_of aggregate (at value those)

  at_more : (b : Bool) (value : Value) → is_at_of key value row ≡ b → at value (rows ++ row ∷ []) ≡ at value rows ++ cond b (row ∷ []) []
  at_more b value is = filter-append (is_at_of key value) rows (row ∷ []) ∙ ap (λ (t : Bool). at value rows ++ cond t (row ∷ []) []) is

  other_total : (value : Value) → is_eq (value_cmp (column_of row key) value) ≡ false → total_at (rows ++ row ∷ []) value ≡ total_at rows value
  other_total value is = ap (total_of aggregate) (at_more false value is ∙ append-nil (at value rows))

  own_total : total_at (rows ++ row ∷ []) (column_of row key) ≡ total_at rows (column_of row key) +ℤ amount_of aggregate row
  own_total =
      let value : Value = column_of row key in
      ap (total_of aggregate) (at_more true value (ap is_eq (tied_itself values_total value))) ∙ total_more aggregate (at value rows) row

none_if : (b : Bool) (key : ℕ) (value : Value) (row : List Value) (rows : List (List Value)) → is_eq (value_cmp value (column_of row key)) ≡ b
    → (b || is_one_of (map (λ row. column_of row key) rows) value) ≡ false
    → (is_one_of (map (λ row. column_of row key) rows) value ≡ false → filter (is_at_of key value) rows ≡ []) → filter (is_at_of key value) (row ∷ rows) ≡ []
none_if true key value row rows is none others = cc
none_if false key value row rows is none others =
    let apart : is_at_of key value row ≡ false = (eq_by_cmp_equiv values_total).symm (column_of row key) value ∙ is in
    ap (λ (b : Bool). cond b (row ∷ filter (is_at_of key value) rows) (filter (is_at_of key value) rows)) apart ∙ others none

-- no row has a value that is none of theirs
none_at : (key : ℕ) (value : Value) (rows : List (List Value)) → is_one_of (map (λ row. column_of row key) rows) value ≡ false
    → filter (is_at_of key value) rows ≡ []
none_at key value [] none = refl
none_at key value (row ∷ rows) none = none_if (is_eq (value_cmp value (column_of row key))) key value row rows refl none (none_at key value rows)

-- the groups of rows and one more
pub groups_more : (key : ℕ) (aggregate : Aggregate) (rows : List (List Value)) (row : List Value)
    → groups_of key aggregate (rows ++ row ∷ []) ≡ with_amount (groups_of key aggregate rows) (column_of row key) (amount_of aggregate row)
groups_more key aggregate rows row =
    let values : List Value = map (λ r. column_of r key) rows in
    let value : Value = column_of row key in
    let all : values_of key (rows ++ row ∷ []) ≡ with_value (values_of key rows) value =
    ap distinct (map-append (λ (r : List Value). column_of r key) rows (row ∷ [])) ∙ distinct_more values value in
    ap (map (group_at key aggregate (rows ++ row ∷ []))) all
    ∙ placed_in value (amount_of aggregate row) (total_at key aggregate rows row rows) (total_at key aggregate rows row (rows ++ row ∷ []))
    (other_total key aggregate rows row) (own_total key aggregate rows row) (values_of key rows) (ascends_distinct values)
    (λ none. ap (total_of aggregate) (none_at key value rows (sym (one_of_distinct values value) ∙ none)) ∙ total_none aggregate)
