use Rattle.std.proofs.Common.{ap, ◌∙◌, arith}
use Rattle.hy_column.specs.Columns.{places}
use Rattle.hy_column.proofs.RowLists.{place_within, column_within, seen_value, places_at}
use Rattle.hy_column.proofs.columns.Columns.refer.Goals as goal

pub refer-requires : goal.refer-requires
refer-requires c =
    let cols = c.self.inside.columns.items in
    let within = place_within c.self.inside.rows cols c.args.self.now c.self.view_is c.args.place c.requires.within in
    let column = column_within c.self.inside.rows cols c.args.self.now c.self.view_is c.args.column c.requires.column in
    let same = ap places c.index.ensures ∙ places_at c.self.inside.rows cols c.args.column c.index.result.now c.self.invariant.each column in
    omega (arith, within, same)

pub returns : goal.returns
returns c =
    c.refer.ensures ∙ seen_value c.self.inside.rows c.self.inside.columns.items c.args.self.now c.self.view_is c.args.place c.args.column c.index.result.now _
    c.requires.within c.requires.column c.index.ensures
