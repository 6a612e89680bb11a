-- Groups to which those of other rows are added are the groups of both lists of rows.
use Rattle.std.proofs.Common.{◌≡◌, ℕ, ◌+◌, ◌≤◌, List, [], ◌∷◌, ◌++◌, map, refl, ap, sym, ◌∙◌, subst, append_assoc, arith, ℤ, ◌+ℤ◌}
use Rattle.std.specs.Int.RustNames.{unsigned_abs}
use Rattle.std.specs.Ordering.{match_ordering, ordering_reverse}
use Rattle.std.specs.declared.cmp.Ordering.{Ordering}
use Rattle.std.specs.declared.cmp.Ordering.TheVariants.{Less, Equal, Greater}
use Rattle.std.proofs.lemmas.Cmp.{alike_right, tied_itself}
use Rattle.std.proofs.lemmas.Int.{ints}
use Rattle.std.proofs.lemmas.List.{append-nil, map-append}
use Rattle.hy_value.specs.declared.Value.{Value}
use Rattle.hy_value.specs.Order.{value_cmp}
use Rattle.hy_value.specs.TotalOrder.{values_tie, values_total}
use Rattle.hy_bound.specs.declared.Aggregate.{Aggregate}
use Rattle.hy_bound.specs.declared.Grouped.{Grouped}
use Rattle.hy_bound.specs.Predicate.{column_of}
use Rattle.hy_bound.specs.Projection.{spread}
use Rattle.hy_meaning.specs.Statement.{Table}
use Rattle.hy_meaning.specs.Totals.{groups_of}
use Rattle.hy_gathered.specs.Groups.{groups_by}
use Rattle.hy_gathered.specs.Tally.{amount_of, group_of, merged, size_of, with_amount}
use Rattle.hy_gathered.specs.declared.tally.Grouping.{Grouping}
use Rattle.hy_gathered.proofs.Grouped.{groups_more}
use Rattle.hy_gathered.proofs.Tallied.{size_added}

-- ---- where an amount comes to

abbrev placed_by : Ordering → Grouped → List Grouped → Value → ℤ → List Grouped
placed_by o group groups value amount =
    match_ordering o (group_of (value, amount) ∷ group ∷ groups) (group_of (group.value, group.total +ℤ amount) ∷ groups)
    (group ∷ with_amount groups value amount)

comes_by : (o : Ordering) (group : Grouped) (groups : List Grouped) (value : Value) (amount : ℤ) → value_cmp value group.value ≡ o
    → with_amount (group ∷ groups) value amount ≡ placed_by o group groups value amount
comes_by o group groups value amount is = ap (λ (p : Ordering). placed_by p group groups value amount) is

above : (low high : Value) → value_cmp low high ≡ Less → value_cmp high low ≡ Greater
above low high less = values_total.antisymm high low ∙ ap ordering_reverse less

below : (low high : Value) → value_cmp high low ≡ Greater → value_cmp low high ≡ Less
below low high more = values_total.antisymm low high ∙ ap ordering_reverse more

-- ---- two amounts at one value are their sum

again_if : (o : Ordering) (group : Grouped) (groups : List Grouped) (value : Value) (first second : ℤ) → value_cmp value group.value ≡ o
    → with_amount (with_amount groups value first) value second ≡ with_amount groups value (first +ℤ second)
    → with_amount (placed_by o group groups value first) value second ≡ placed_by o group groups value (first +ℤ second)
again_if Less group groups value first second is others =
    comes_by Equal (group_of (value, first)) (group ∷ groups) value second (tied_itself values_total value)
again_if Equal group groups value first second is others =
    comes_by Equal (group_of (group.value, group.total +ℤ first)) groups value second is
    ∙ ap (λ (z : ℤ). group_of (group.value, z) ∷ groups) (omega (arith, ints))
again_if Greater group groups value first second is others =
    comes_by Greater group (with_amount groups value first) value second is ∙ ap (λ (those : List Grouped). group ∷ those) others

again : (groups : List Grouped) (value : Value) (first second : ℤ)
    → with_amount (with_amount groups value first) value second ≡ with_amount groups value (first +ℤ second)
again [] value first second = comes_by Equal (group_of (value, first)) [] value second (tied_itself values_total value)
again (group ∷ groups) value first second = again_if (value_cmp value group.value) group groups value first second refl (again groups value first second)

-- ---- amounts at two values come in any order

-- below the first group another amount comes behind this one
leads_by : (p : Ordering) (group : Grouped) (groups : List Grouped) (low high : Value) (first second : ℤ) → value_cmp low high ≡ Less
    → value_cmp low group.value ≡ Less
    → with_amount (placed_by p group groups high second) low first ≡ group_of (low, first) ∷ placed_by p group groups high second
leads_by Less group groups low high first second less is = comes_by Less (group_of (high, second)) (group ∷ groups) low first less
leads_by Equal group groups low high first second less is = comes_by Less (group_of (group.value, group.total +ℤ second)) groups low first is
leads_by Greater group groups low high first second less is = comes_by Less group (with_amount groups high second) low first is

swap_if : (o : Ordering) (group : Grouped) (groups : List Grouped) (low high : Value) (first second : ℤ) → value_cmp low high ≡ Less
    → value_cmp low group.value ≡ o
    → with_amount (with_amount groups low first) high second ≡ with_amount (with_amount groups high second) low first
    → with_amount (placed_by o group groups low first) high second ≡ with_amount (with_amount (group ∷ groups) high second) low first
swap_if Less group groups low high first second less is others =
    comes_by Greater (group_of (low, first)) (group ∷ groups) high second (above low high less)
    ∙ sym (leads_by (value_cmp high group.value) group groups low high first second less is)
swap_if Equal group groups low high first second less is others =
    let same : low ≡ group.value = values_tie low group.value is in
    let more : value_cmp high group.value ≡ Greater = ap (value_cmp high) (sym same) ∙ above low high less in
    comes_by Greater (group_of (group.value, group.total +ℤ first)) groups high second more
    ∙ sym (ap (λ (those : List Grouped). with_amount those low first) (comes_by Greater group groups high second more)
    ∙ comes_by Equal group (with_amount groups high second) low first is)
swap_if Greater group groups low high first second less is others =
    let more : value_cmp high group.value ≡ Greater = above group.value high (values_total.trans group.value low high (below group.value low is) less) in
    comes_by Greater group (with_amount groups low first) high second more
    ∙ (ap (λ (those : List Grouped). group ∷ those) others
    ∙ sym (ap (λ (those : List Grouped). with_amount those low first) (comes_by Greater group groups high second more)
    ∙ comes_by Greater group (with_amount groups high second) low first is))

swap_low : (groups : List Grouped) (low high : Value) (first second : ℤ) → value_cmp low high ≡ Less
    → with_amount (with_amount groups low first) high second ≡ with_amount (with_amount groups high second) low first
swap_low [] low high first second less =
    comes_by Greater (group_of (low, first)) [] high second (above low high less) ∙ sym (comes_by Less (group_of (high, second)) [] low first less)
swap_low (group ∷ groups) low high first second less =
    swap_if (value_cmp low group.value) group groups low high first second less refl (swap_low groups low high first second less)

swap_by : (o : Ordering) (groups : List Grouped) (value other : Value) (first second : ℤ) → value_cmp value other ≡ o
    → with_amount (with_amount groups value first) other second ≡ with_amount (with_amount groups other second) value first
swap_by Less groups value other first second is = swap_low groups value other first second is
swap_by Equal groups value other first second is =
    let adds : first +ℤ second ≡ second +ℤ first = omega (arith, ints) in
    subst (λ (v : Value). with_amount (with_amount groups value first) v second ≡ with_amount (with_amount groups v second) value first)
    (values_tie value other is) (again groups value first second ∙ (ap (with_amount groups value) adds ∙ sym (again groups value second first)))
swap_by Greater groups value other first second is = sym (swap_low groups other value second first (below other value is))

swap : (groups : List Grouped) (value other : Value) (first second : ℤ)
    → with_amount (with_amount groups value first) other second ≡ with_amount (with_amount groups other second) value first
swap groups value other first second = swap_by (value_cmp value other) groups value other first second refl

-- ---- groups to which others are added

-- an amount may be added before the others
before_others : (groups others : List Grouped) (value : Value) (amount : ℤ)
    → merged (with_amount groups value amount) others ≡ with_amount (merged groups others) value amount
before_others groups [] value amount = refl
before_others groups (other ∷ others) value amount =
    ap (λ (those : List Grouped). merged those others) (swap groups value other.value amount other.total)
    ∙ before_others (with_amount groups other.value other.total) others value amount

-- or to the others
among_if : (o : Ordering) (groups : List Grouped) (other : Grouped) (others : List Grouped) (value : Value) (amount : ℤ) → value_cmp value other.value ≡ o
    → merged (with_amount groups other.value other.total) (with_amount others value amount)
    ≡ with_amount (merged (with_amount groups other.value other.total) others) value amount
    → merged groups (placed_by o other others value amount) ≡ with_amount (merged groups (other ∷ others)) value amount
among_if Less groups other others value amount is rest = before_others groups (other ∷ others) value amount
among_if Equal groups other others value amount is rest =
    ap (λ (those : List Grouped). merged those others) (sym (again groups other.value other.total amount))
    ∙ (before_others (with_amount groups other.value other.total) others other.value amount
    ∙ ap (λ (v : Value). with_amount (merged groups (other ∷ others)) v amount) (sym (values_tie value other.value is)))
among_if Greater groups other others value amount is rest = rest

among_others : (groups others : List Grouped) (value : Value) (amount : ℤ)
    → merged groups (with_amount others value amount) ≡ with_amount (merged groups others) value amount
among_others groups [] value amount = refl
among_others groups (other ∷ others) value amount =
    among_if (value_cmp value other.value) groups other others value amount refl
    (among_others (with_amount groups other.value other.total) others value amount)

-- ---- the groups of both lists of rows

module _ (key : ℕ) (aggregate : Aggregate) (rows : Table) where
  abbrev AreOfBoth : Table → Type 0
  AreOfBoth others = merged (groups_of key aggregate rows) (groups_of key aggregate others) ≡ groups_of key aggregate (rows ++ others)

  row_of_both : (others : Table) (row : List Value) → AreOfBoth others → AreOfBoth (others ++ row ∷ [])
  row_of_both others row both =
      let value : Value = column_of row key in
      let amount : ℤ = amount_of aggregate row in
      ap (merged (groups_of key aggregate rows)) (groups_more key aggregate others row)
      ∙ (among_others (groups_of key aggregate rows) (groups_of key aggregate others) value amount
      ∙ (ap (λ (those : List Grouped). with_amount those value amount) both
      ∙ (sym (groups_more key aggregate (rows ++ others) row) ∙ ap (groups_of key aggregate) (append_assoc rows others (row ∷ [])))))

  rows_of_both : (others more : Table) → AreOfBoth others → AreOfBoth (others ++ more)
  rows_of_both others [] both = subst AreOfBoth (sym (append-nil others)) both
  rows_of_both others (row ∷ more) both =
      subst AreOfBoth (append_assoc others (row ∷ []) more) (rows_of_both (others ++ row ∷ []) more (row_of_both others row both))

  all_of_both : (others : Table) → AreOfBoth others
  all_of_both others = rows_of_both [] others (ap (groups_of key aggregate) (sym (append-nil rows)))

pub groups_merged : (grouping : Grouping) (rows others : Table)
    → merged (groups_by grouping rows) (groups_by grouping others) ≡ groups_by grouping (rows ++ others)
groups_merged grouping rows others =
    let by : List Value → List Value = λ row. spread grouping.columns grouping.width row in
    all_of_both grouping.key grouping.aggregate (map by rows) (map by others)
    ∙ ap (groups_of grouping.key grouping.aggregate) (sym (map-append by rows others))

-- ---- their size

pub size_merged : (groups : List Grouped) (value : Value) (amount : ℤ) (others : List Grouped) (most : ℕ)
    → size_of groups + (unsigned_abs amount + size_of others) ≤ most → size_of (with_amount groups value amount) + size_of others ≤ most
size_merged groups value amount others most low = let added = size_added groups value amount in omega (arith, low, added)
