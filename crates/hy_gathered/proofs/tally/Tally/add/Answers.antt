use Rattle.std.proofs.Common.{◌≡◌, ℕ, ◌+◌, ◌*◌, ◌≤◌, ◌^◌, List, ap, sym, ◌∙◌, subst, arith, rules, to_z, of_z}
use Rattle.std.specs.Int.RustNames.{unsigned_abs}
use mir.Syntax.{w128}
use Rattle.hy_bound.specs.declared.Grouped.{Grouped}
use Rattle.hy_gathered.specs.Tally.{Tallied, groups_in, size_of, with_amount}
use Rattle.hy_gathered.proofs.Tallied.{size_added}
use Rattle.hy_gathered.proofs.tally.Tally.add.Goals as goal

pub add_at-requires : goal.add_at-requires
add_at-requires c =
    let rows = ap (λ (t : Tallied). t.rows) c.self.view_is in
    let amount : to_z w128 (of_z w128 c.args.amount) ≡ c.args.amount = search rules in
    omega (arith, c.self.invariant, c.requires.rows, c.requires.small, rows, ap unsigned_abs amount)

pub invariant_of-self-2 : goal.invariant_of-self-2
invariant_of-self-2 c =
    let rows : ℕ = c.self.inside.rows in
    let before : List Grouped = groups_in c.self.inside.totals.entries in
    let amount : to_z w128 (of_z w128 c.args.amount) ≡ c.args.amount = search rules in
    let after = c.in_ok-add_at.ensures.ok ∙ ap (with_amount before c.args.value) amount in
    let added = size_added before c.args.value c.args.amount in
    subst (λ (groups : List Grouped). size_of groups ≤ 2 ^ 63 * (rows + 1)) (sym after)
    (omega (arith, c.requires.small, c.self.invariant, added))
