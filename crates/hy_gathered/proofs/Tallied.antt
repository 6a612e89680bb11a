-- The totals of a map as groups, where an amount is added at a value.
use Rattle.std.proofs.Common.{◌≡◌, ℕ, ◌+◌, ◌≤◌, Bool, true, false, cond, List, [], ◌∷◌, refl, ap, subst, arith, ℤ, ◌+ℤ◌, None, Some}
use Rattle.std.specs.BTreeMap.{insert_entry, is_at}
use Rattle.std.specs.Int.RustNames.{unsigned_abs}
use Rattle.std.specs.List.Sorted.{IsStrictlySortedBy}
use Rattle.std.specs.Map.{keys_of, lookup, set_value}
use Rattle.std.specs.Ordering.{is_eq, match_ordering}
use Rattle.std.specs.declared.cmp.Ordering.{Ordering}
use Rattle.std.specs.declared.cmp.Ordering.TheVariants.{Less, Equal, Greater}
use Rattle.std.proofs.lemmas.Int.{ints}
use Rattle.std.proofs.lemmas.Map.{lookup-none}
use Rattle.std.proofs.lemmas.Map.Entries.{none_below_head}
use Rattle.std.proofs.lemmas.Map.Keys.{sorted_tail}
use Rattle.hy_value.specs.declared.Value.{Value}
use Rattle.hy_value.specs.Order.{value_cmp}
use Rattle.hy_value.specs.TotalOrder.{values_total}
use Rattle.hy_bound.specs.declared.Grouped.{Grouped}
use Rattle.hy_gathered.specs.Tally.{group_of, groups_in, size_of, with_amount}

-- ---- to a total that is there

raised_if : (o : Ordering) (entry : Value × ℤ) (entries : List (Value × ℤ)) (value : Value) (amount total : ℤ) → value_cmp value entry.0 ≡ o
    → IsStrictlySortedBy value_cmp (keys_of (entry ∷ entries)) → cond (is_eq o) (Some entry.1) (lookup (is_at (value_cmp value)) entries) ≡ Some total
    → (lookup (is_at (value_cmp value)) entries ≡ Some total
    → groups_in (set_value (is_at (value_cmp value)) entries (total +ℤ amount)) ≡ with_amount (groups_in entries) value amount)
    → groups_in (cond (is_eq o) ((entry.0, total +ℤ amount) ∷ entries) (entry ∷ set_value (is_at (value_cmp value)) entries (total +ℤ amount)))
    ≡ match_ordering o (group_of (value, amount) ∷ group_of entry ∷ groups_in entries) (group_of (entry.0, entry.1 +ℤ amount) ∷ groups_in entries)
    (group_of entry ∷ with_amount (groups_in entries) value amount)
raised_if Less entry entries value amount total is ascends found others =
    let none : lookup (is_at (value_cmp value)) entries ≡ None =
    lookup-none (is_at (value_cmp value)) entries (none_below_head values_total value entry entries ascends is).1 in
    cc
raised_if Equal entry entries value amount total is ascends found others =
    let same : total ≡ entry.1 = cc in
    ap (λ (z : ℤ). group_of (entry.0, z +ℤ amount) ∷ groups_in entries) same
raised_if Greater entry entries value amount total is ascends found others = ap (λ (groups : List Grouped). group_of entry ∷ groups) (others found)

pub raised : (entries : List (Value × ℤ)) (value : Value) (amount total : ℤ) → IsStrictlySortedBy value_cmp (keys_of entries)
    → lookup (is_at (value_cmp value)) entries ≡ Some total
    → groups_in (set_value (is_at (value_cmp value)) entries (total +ℤ amount)) ≡ with_amount (groups_in entries) value amount
raised [] value amount total ascends found = cc
raised (entry ∷ entries) value amount total ascends found =
    raised_if (value_cmp value entry.0) entry entries value amount total refl ascends found
    (raised entries value amount total (sorted_tail value_cmp entry.0 (keys_of entries) ascends))

-- ---- as a total of its own

begun_if : (o : Ordering) (entry : Value × ℤ) (entries : List (Value × ℤ)) (value : Value) (amount : ℤ)
    → cond (is_eq o) (Some entry.1) (lookup (is_at (value_cmp value)) entries) ≡ None
    → (lookup (is_at (value_cmp value)) entries ≡ None
    → groups_in (insert_entry value_cmp entries value amount) ≡ with_amount (groups_in entries) value amount)
    → groups_in (match_ordering o ((value, amount) ∷ entry ∷ entries) ((entry.0, amount) ∷ entries) (entry ∷ insert_entry value_cmp entries value amount))
    ≡ match_ordering o (group_of (value, amount) ∷ group_of entry ∷ groups_in entries) (group_of (entry.0, entry.1 +ℤ amount) ∷ groups_in entries)
    (group_of entry ∷ with_amount (groups_in entries) value amount)
begun_if Less entry entries value amount none others = refl
begun_if Equal entry entries value amount none others = cc
begun_if Greater entry entries value amount none others = ap (λ (groups : List Grouped). group_of entry ∷ groups) (others none)

pub begun : (entries : List (Value × ℤ)) (value : Value) (amount : ℤ) → lookup (is_at (value_cmp value)) entries ≡ None
    → groups_in (insert_entry value_cmp entries value amount) ≡ with_amount (groups_in entries) value amount
begun [] value amount none = refl
begun (entry ∷ entries) value amount none = begun_if (value_cmp value entry.0) entry entries value amount none (begun entries value amount)

-- ---- the size of the totals

adds_size : (o : Ordering) (group : Grouped) (groups : List Grouped) (value : Value) (amount : ℤ)
    → size_of (with_amount groups value amount) ≤ size_of groups + unsigned_abs amount
    → size_of (match_ordering o (group_of (value, amount) ∷ group ∷ groups) (group_of (group.value, group.total +ℤ amount) ∷ groups)
    (group ∷ with_amount groups value amount)) ≤ size_of (group ∷ groups) + unsigned_abs amount
adds_size Less group groups value amount others = omega arith
adds_size Equal group groups value amount others = omega (arith, ints)
adds_size Greater group groups value amount others = omega (arith, others)

-- an amount adds at most its own size
pub size_added : (groups : List Grouped) (value : Value) (amount : ℤ) → size_of (with_amount groups value amount) ≤ size_of groups + unsigned_abs amount
size_added [] value amount = omega arith
size_added (group ∷ groups) value amount = adds_size (value_cmp value group.value) group groups value amount (size_added groups value amount)

found_if : (b : Bool) (entry : Value × ℤ) (entries : List (Value × ℤ)) (value : Value) (total : ℤ)
    → cond b (Some entry.1) (lookup (is_at (value_cmp value)) entries) ≡ Some total
    → (lookup (is_at (value_cmp value)) entries ≡ Some total → unsigned_abs total ≤ size_of (groups_in entries))
    → unsigned_abs total ≤ size_of (groups_in (entry ∷ entries))
found_if true entry entries value total found others =
    let same : entry.1 ≡ total = cc in
    subst (λ (z : ℤ). unsigned_abs z ≤ size_of (groups_in (entry ∷ entries))) same (omega arith)
found_if false entry entries value total found others = let those = others found in omega (arith, those)

-- a total that is there is no larger than all together
pub size_found : (entries : List (Value × ℤ)) (value : Value) (total : ℤ) → lookup (is_at (value_cmp value)) entries ≡ Some total
    → unsigned_abs total ≤ size_of (groups_in entries)
size_found [] value total found = cc
size_found (entry ∷ entries) value total found =
    found_if (is_at (value_cmp value) entry.0) entry entries value total found (size_found entries value total)
