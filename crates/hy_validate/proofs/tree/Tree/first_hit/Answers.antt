use Rattle.std.proofs.Common.{rules, ◌≡◌, ◌⊎◌, ℕ, List, sym, ap, ◌∙◌, subst}
use Rattle.hy_bound.specs.declared.Record.{Record}
use Rattle.hy_validate.specs.declared.groups.Group.{Group}
use Rattle.hy_validate.specs.Groups.{IsIn}
use Rattle.hy_validate.specs.Keys.{HasNumber}
use Rattle.hy_validate.specs.TreeHits.{is_hit_by, is_hit_number, first_hit_of, Finds, earlier_of}
use Rattle.hy_validate.proofs.Least.{finds_both, finds_position}
use Rattle.hy_validate.proofs.tree.Tree.first_hit.Goals as goal

pub returns : goal.returns
returns c =
    let change = c.args.change.now in
    let records = c.self.inside.records.now in
    let places = c.self.inside.keyed.places.items in
    let groups = c.self.inside.groups.items in
    let is_hit = is_hit_number records change in
    let either : ℕ → Type 0 = λ n. HasNumber places n ⊎ IsIn groups n in
    let less : c.earlier.result ≡ earlier_of c.first_hit-by_key.result c.first_among-in_groups.result = search rules in
    let in_groups : Finds is_hit (IsIn groups) c.first_among-in_groups.result =
    subst (λ (gs : List Group). Finds is_hit (IsIn gs) c.first_among-in_groups.result) c.as_slice.ensures.value c.first_among-in_groups.ensures in
    finds_position (is_hit_by change) records c.earlier.result either
    (subst (Finds is_hit either) (sym less)
    (finds_both is_hit (HasNumber places) (IsIn groups) either c.first_hit-by_key.result c.first_among-in_groups.result c.first_hit-by_key.ensures in_groups
    (λ n s t. s)))
    (λ n l. c.self.invariant.filed.complete n l)
    ∙ ap (λ (rs : List Record). first_hit_of rs change) c.self.view_is
