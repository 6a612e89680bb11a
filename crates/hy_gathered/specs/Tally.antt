-- Totals of rows by value.
use Rattle.std.specs.Prelude.{ℕ, ◌+◌, List, [], ◌∷◌, ℤ, pos, ◌+ℤ◌, map, refl}
use Rattle.std.specs.Coded.{Coded, code_by, coded×, coded_list, coded_ℕ}
use Rattle.std.specs.Int.RustNames.{unsigned_abs}
use Rattle.std.specs.Ordering.{match_ordering}
use Rattle.hy_value.specs.declared.Value.{Value}
use Rattle.hy_value.specs.Order.{value_cmp}
use Rattle.hy_bound.specs.declared.Aggregate.{Aggregate}
use Rattle.hy_bound.specs.declared.Aggregate.TheVariants.{Count, Sum}
use Rattle.hy_bound.specs.declared.Grouped.{Grouped}
use Rattle.hy_bound.specs.contracts.Grouped as grouped
use Rattle.hy_bound.specs.Predicate.{column_of}
use Rattle.hy_meaning.specs.Totals.{added_of}

-- of how many rows totals are, and their groups
pub record Tallied : Type 0 where
  pub rows : ℕ
  pub groups : List Grouped

-- they are stored as the pair of these
abbrev pub tallied_code : Coded Tallied
tallied_code =
    code_by (ℕ × List Grouped) (coded× coded_ℕ (coded_list grouped.the_row.coded))
    (λ t. (t.rows, t.groups)) (λ p. record { rows = p.0; groups = p.1 }) (λ _. refl)

-- a value and its total, as a group
abbrev pub group_of : Value × ℤ → Grouped
group_of entry = record { value = entry.0; total = entry.1 }

abbrev pub groups_in : List (Value × ℤ) → List Grouped
groups_in entries = map group_of entries

-- ascending groups, with an amount added at a value: to the total that is there, or as a group of its own in its place
abbrev pub with_amount : List Grouped → Value → ℤ → List Grouped
with_amount [] value amount = group_of (value, amount) ∷ []
with_amount (group ∷ groups) value amount =
    match_ordering (value_cmp value group.value) (group_of (value, amount) ∷ group ∷ groups) (group_of (group.value, group.total +ℤ amount) ∷ groups)
    (group ∷ with_amount groups value amount)

-- groups, with the totals of others added
abbrev pub merged : List Grouped → List Grouped → List Grouped
merged groups [] = groups
merged groups (other ∷ others) = merged (with_amount groups other.value other.total) others

-- how large totals are together, whatever their signs
abbrev pub size_of : List Grouped → ℕ
size_of [] = 0
size_of (group ∷ groups) = unsigned_abs group.total + size_of groups

-- what a row adds to the total of its group: one, or the value that is summed
abbrev pub amount_of : Aggregate → List Value → ℤ
amount_of Count row = pos 1
amount_of (Sum column) row = added_of (column_of row column)
