use Rattle.std.proofs.Common.{◌≡◌, ◌≤◌, None, Some, ap, sym, ◌∙◌, arith, rules, to_z, of_z, ℤ, ◌+ℤ◌}
use mir.Syntax.{w128}
use mir.Val.{SFits}
use Rattle.std.specs.BTreeMap.{BTreeMap, insert_entry, is_at}
use Rattle.std.specs.Int.RustNames.{unsigned_abs}
use Rattle.std.specs.Map.{lookup, set_value}
use Rattle.std.proofs.lemmas.Int.{ints}
use Rattle.hy_value.specs.declared.Value.{Value}
use Rattle.hy_value.specs.Order.{value_cmp}
use Rattle.hy_gathered.specs.Tally.{groups_in, size_of}
use Rattle.hy_gathered.proofs.Tallied.{begun, raised, size_found}
use Rattle.hy_gathered.proofs.tally.add_at.Goals as goal

pub overflow_add-total : goal.overflow_add-total
overflow_add-total c =
    let total : ℤ = c.in-Some.total.now in
    let size = size_found c.args.totals.now.entries c.args.value total (sym c.in-Some.ensures.value) in
    omega (arith, ints, size, c.requires)

pub returns-in-Some-clause-ok : goal.returns-in-Some-clause-ok
returns-in-Some-clause-ok c =
    let entries = c.args.totals.now.entries in
    let total : ℤ = c.in-Some.total.now in
    let amount : ℤ = c.args.amount in
    let next : ℤ = to_z w128 (of_z w128 (to_z w128 (of_z w128 total) +ℤ to_z w128 (of_z w128 amount))) in
    let found : lookup (is_at (value_cmp c.args.value)) entries ≡ Some total = sym c.in-Some.ensures.value in
    let size : unsigned_abs total ≤ size_of (groups_in entries) = size_found entries c.args.value total found in
    let fits : SFits w128 (total +ℤ amount) = omega (arith, ints, size, c.requires) in
    let adds : next ≡ total +ℤ amount = search rules in
    ap groups_in ((c.get_mut.follows.holds next).0 ∙ ap (set_value (is_at (value_cmp c.args.value)) entries) adds)
    ∙ raised entries c.args.value amount total c.get_mut.ensures.ordered found

pub returns-clause-ok : goal.returns-clause-ok
returns-clause-ok c =
    let entries = c.args.totals.now.entries in
    let amount : to_z w128 (of_z w128 c.args.amount) ≡ c.args.amount = search rules in
    let none : lookup (is_at (value_cmp c.args.value)) entries ≡ None = search rules in
    ap groups_in (c.in_ok-insert.ensures.entries ∙ ap (insert_entry value_cmp c.get_mut.follows.lender-at-none.entries c.args.value) amount)
    ∙ (ap (λ (totals : BTreeMap Value ℤ). groups_in (insert_entry value_cmp totals.entries c.args.value c.args.amount)) c.get_mut.follows.holds-at-none
    ∙ begun entries c.args.value c.args.amount none)
