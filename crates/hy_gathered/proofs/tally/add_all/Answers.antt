use Rattle.std.proofs.Common.{◌≡◌, ℕ, ◌+◌, ◌≤◌, ◌^◌, List, [], ◌∷◌, ap, sym, ◌∙◌, subst, arith, rules, to_z, of_z, ℤ}
use mir.Syntax.{w128}
use Rattle.std.specs.Int.RustNames.{unsigned_abs}
use Rattle.hy_value.specs.declared.Value.{Value}
use Rattle.hy_bound.specs.declared.Grouped.{Grouped}
use Rattle.hy_gathered.specs.Tally.{groups_in, merged, size_of, with_amount}
use Rattle.hy_gathered.proofs.Merged.{size_merged}
use Rattle.hy_gathered.proofs.tally.add_all.Goals as goal

pub add_at-requires : goal.add_at-requires
add_at-requires c =
    let l = c.loop-value in
    let value : Value = c.in-Some.value.now in
    let total : ℤ = c.in-Some.total.now in
    let rest : l.value-iterator ≡ (value, total) ∷ c.next.new.self = search rules in
    let same : to_z w128 (of_z w128 total) ≡ total = search rules in
    let size = ap (λ (those : List (Value × ℤ)). size_of (groups_in those)) rest in
    omega (arith, l.invariant.size, c.requires, size, ap unsigned_abs same)

pub loop-value-preserved : goal.loop-value-preserved
loop-value-preserved c =
    let l = c.loop-value in
    let value : Value = c.in-Some.value.now in
    let total : ℤ = c.in-Some.total.now in
    let groups : List Grouped = groups_in l.totals.entries in
    let others : List Grouped = groups_in c.next.new.self in
    let most : ℕ = size_of (groups_in c.args.totals.now.entries) + size_of (groups_in c.args.others.now.entries) in
    let rest : l.value-iterator ≡ (value, total) ∷ c.next.new.self = search rules in
    let same : to_z w128 (of_z w128 total) ≡ total = search rules in
    let adds : groups_in c.add_at.new.totals.entries ≡ with_amount groups value total =
    c.in_ok-add_at.ensures.ok ∙ (ap (with_amount groups c.copy.result) same ∙ ap (λ (v : Value). with_amount groups v total) c.copy.ensures) in
    record {
      whole =
          ap (λ (those : List Grouped). merged those others) adds
          ∙ (ap (λ (those : List (Value × ℤ)). merged groups (groups_in those)) (sym rest) ∙ l.invariant.whole);
      size =
          subst (λ (those : List Grouped). size_of those + size_of others ≤ most) (sym adds)
          (size_merged groups value total others most
          (subst (λ (those : List (Value × ℤ)). size_of groups + size_of (groups_in those) ≤ most) rest l.invariant.size));
    }
