use Rattle.std.proofs.Common.{◌≡◌, List, get_or, map, sym, ap, ◌∙◌, subst}
use Rattle.hy_value.specs.declared.Value.{Value}
use Rattle.hy_value.specs.declared.Value.TheVariants as value
use Rattle.hy_column.specs.declared.columns.Column.{Column}
use Rattle.hy_column.specs.declared.columns.Column.TheVariants as column
use Rattle.hy_column.specs.Columns.{places}
use Rattle.hy_column.specs.Rows.{ByPlace}
use Rattle.hy_column.proofs.RowLists.{column_within, places_at, rows_known, some_then}
use Rattle.hy_column.proofs.columns.Columns.numbers.Goals as goal

pub returns-in-Int : goal.returns-in-Int
returns-in-Int c =
    let cols = c.self.inside.columns.items in
    let numbers = c.in-Int.numbers in
    let within = column_within c.self.inside.rows cols c.args.self.now c.self.view_is c.args.column c.requires in
    let here : column.Int numbers ≡ get_or cols c.args.column (column.Int numbers) =
    subst (λ (d : Column). d ≡ get_or cols c.args.column d) c.in-Int.is c.index.ensures in
    let many = ap places here ∙ places_at c.self.inside.rows cols c.args.column (column.Int numbers) c.self.invariant.each within in
    some_then c.known.result
    (λ values known. rows_known c.self.inside.rows cols c.args.column values.now numbers within (sym here) many known
    ∙ ap (λ (seen : ByPlace). map (λ (row : List Value). get_or row c.args.column value.Null) seen.rows) c.self.view_is)
    c.known.ensures
