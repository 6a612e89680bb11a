use Rattle.std.proofs.Common.{◌<◌, [], get_or, ap, ◌∙◌, arith, length}
use Rattle.hy_bound.specs.Predicate.{column_of}
use Rattle.hy_plan.proofs.Cells.{reach_at, length-rows_of, cell_at}
use Rattle.hy_plan.proofs.gathered.Gathered.refer.Goals as goal

pub refer-requires : goal.refer-requires
refer-requires c =
    let within : c.args.column < length c.self.inside.columns.items = omega (arith, c.requires.column, ap (λ gathered. gathered.width) c.self.view_is) in
    omega (
      arith,
      c.requires.index,
      ap (λ gathered. length gathered.rows) c.self.view_is,
      length-rows_of c.self.inside.len c.self.inside.columns.items,
      reach_at c.self.inside.len c.self.inside.columns.items c.args.column c.index.result.now c.self.invariant within c.index.ensures,
    )

pub returns : goal.returns
returns c =
    let within : c.args.column < length c.self.inside.columns.items = omega (arith, c.requires.column, ap (λ gathered. gathered.width) c.self.view_is) in
    let below : c.args.index < c.self.inside.len = omega (arith, c.requires.index, ap (λ gathered. length gathered.rows) c.self.view_is, length-rows_of c.self.inside.len c.self.inside.columns.items) in
    c.refer.ensures
    ∙ (cell_at c.self.inside.len c.self.inside.columns.items c.args.index c.args.column c.index.result.now below within c.index.ensures
    ∙ ap (λ gathered. column_of (get_or gathered.rows c.args.index []) c.args.column) c.self.view_is)
