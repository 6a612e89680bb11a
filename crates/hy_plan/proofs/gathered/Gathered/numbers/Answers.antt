use Rattle.std.proofs.Common.{◌<◌, ◌∙◌, List, length, map, ap, arith}
use Rattle.hy_value.specs.declared.Value.{Value}
use Rattle.hy_bound.specs.Predicate.{column_of}
use Rattle.hy_plan.proofs.Cells.{column_seen, reach_at}
use Rattle.hy_plan.proofs.Results.{some_then}
use Rattle.hy_plan.proofs.gathered.Gathered.numbers.Goals as goal

pub returns : goal.returns
returns c =
    let within : c.args.column < length c.self.inside.columns.items = omega (arith, c.requires, ap (λ gathered. gathered.width) c.self.view_is) in
    let reach = reach_at c.self.inside.len c.self.inside.columns.items c.args.column c.index.result.now c.self.invariant within c.index.ensures in
    some_then c.numbers.result
    (λ numbers told. told ∙ (column_seen c.self.inside.len c.self.inside.columns.items c.args.column c.index.result.now reach within c.index.ensures
    ∙ ap (λ gathered. map (λ (row : List Value). column_of row c.args.column) gathered.rows) c.self.view_is))
    c.numbers.ensures
