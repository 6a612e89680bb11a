use Rattle.std.proofs.Common.{◌≡◌, Ok, rules, refl, ap, ◌∙◌, arith}
use Rattle.std.specs.List.{range_with_len}
use Rattle.std.proofs.lemmas.Iterator.{YieldsList-from_range, items_from_collect}
use Rattle.hy_bind.specs.Scope.{total_width}
use Rattle.hy_bind.proofs.listed.all_columns.Goals as goal

pub returns : goal.returns
returns c =
    let width = c.in_ok-width.width in
    let whole : width ≡ total_width c.args.scope.now.catalog.now c.args.scope.now.tables.now = search rules in
    c.from_vec.ensures
    ∙ (items_from_collect {E = Unit {0}} (Ok c.in_ok-collect.field-0) c.in_ok-collect.ensures.ran (YieldsList-from_range 0 width width refl (omega arith)) ∙ ap (range_with_len 0) whole)
