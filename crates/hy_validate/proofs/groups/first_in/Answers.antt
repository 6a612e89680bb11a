use Rattle.std.proofs.Common.{rules, ◌≡◌, ℕ, ◌<◌, List, true, false, length, get_or, sym, arith, subst}
use Rattle.std.specs.Prelude.{Some, None, Contains}
use Rattle.std.specs.List.Sorted.{IsStrictlyIncreasing}
use Rattle.hy_validate.specs.TreeHits.{is_hit_number, is_asked, Finds}
use Rattle.hy_validate.proofs.Earliness.{group_missed, none_has, first_is_least}
use Rattle.hy_validate.proofs.groups.first_in.Goals as goal

pub returns-then-not-may_be_hit : goal.returns-then-not-may_be_hit
returns-then-not-may_be_hit c =
    let not_asked : is_asked c.args.change.now c.args.group.now ≡ false = search rules in
    group_missed c.args.records.now (length c.args.records.now) c.args.group.now c.args.change.now c.requires not_asked

pub returns-then-is_hit : goal.returns-then-is_hit
returns-then-is_hit c =
    let items = c.as_slice-number-items.result.now in
    let is = c.as_slice-number-items.ensures.value in
    let hits = is_hit_number c.args.records.now c.args.change.now in
    let hit : hits (get_or items c.loop-number.number-index 0) ≡ true = search rules in
    subst (λ (numbers : List ℕ). Finds hits (Contains numbers) (Some (get_or items c.loop-number.number-index 0))) is
    (first_is_least items hits c.loop-number.number-index (subst IsStrictlyIncreasing (sym is) c.requires.ascends) (omega arith) c.loop-number.invariant hit)

pub returns : goal.returns
returns c =
    let items = c.as_slice-number-items.result.now in
    let hits = is_hit_number c.args.records.now c.args.change.now in
    let none : (k : ℕ) → k < length items → hits (get_or items k 0) ≡ false = λ k l. c.loop-number.invariant k (omega arith) in
    subst (λ (numbers : List ℕ). Finds hits (Contains numbers) None) c.as_slice-number-items.ensures.value (none_has items hits none)
