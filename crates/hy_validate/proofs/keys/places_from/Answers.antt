use Rattle.std.proofs.Common.{rules, ◌≡◌, List, drop, sym, subst}
use Rattle.std.specs.List.Sorted.{IsSorted}
use Rattle.hy_validate.specs.declared.keys.Keyed.{Keyed}
use Rattle.hy_validate.specs.Keys.{keyed_cmp, HasTied}
use Rattle.hy_validate.proofs.KeyOrder.{sorted_behind, tied_behind}
use Rattle.hy_validate.proofs.keys.places_from.Goals as goal

pub returns-clause-sorted : goal.returns-clause-sorted
returns-clause-sorted c =
    let back : c.split_at.result.1.now ≡ drop c.count_below.result c.args.places.now = search rules in
    subst (λ (places : List Keyed). IsSorted keyed_cmp places) (sym back) (sorted_behind c.count_below.result c.args.places.now c.requires)

pub returns-clause-kept : goal.returns-clause-kept
returns-clause-kept c =
    let back : c.split_at.result.1.now ≡ drop c.count_below.result c.args.places.now = search rules in
    λ number h. subst (λ (places : List Keyed). HasTied c.args.key.now places number) (sym back)
    (tied_behind c.args.key.now c.args.places.now c.count_below.result number c.count_below.ensures.within c.count_below.ensures.point h)
