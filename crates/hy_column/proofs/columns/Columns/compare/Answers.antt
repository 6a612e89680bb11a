use Rattle.std.proofs.Common.{◌≡◌, List, Some, Bool, get_or, map, sym, ap, ◌∙◌, subst, w64, rules}
use Rattle.std.proofs.lemmas.Int.{to_z-of_z}
use Rattle.hy_value.specs.declared.Kind.TheVariants as kind
use Rattle.hy_value.specs.declared.Value.{Value}
use Rattle.hy_value.specs.declared.Value.TheVariants as value
use Rattle.hy_column.specs.declared.columns.Column.{Column}
use Rattle.hy_column.specs.declared.columns.Column.TheVariants as column
use Rattle.hy_column.specs.Columns.{kind_of, places}
use Rattle.hy_column.specs.Rows.{ByPlace}
use Rattle.hy_column.specs.Compared.{column_compared, compares_number, compares_value}
use Rattle.hy_column.proofs.RowLists.{column_within, kind_at, rows_compared, places_at}
use Rattle.hy_column.proofs.columns.Columns.compare.Goals as goal

pub returns-in_ok-compare-in-Int : goal.returns-in_ok-compare-in-Int
returns-in_ok-compare-in-Int c =
    let cols = c.self.inside.columns.items in
    let numbers = c.in-Int.numbers in
    let within = column_within c.self.inside.rows cols c.args.self.now c.self.view_is c.args.column c.requires in
    let here : column.Int numbers ≡ get_or cols c.args.column (column.Int numbers) =
    subst (λ (d : Column). d ≡ get_or cols c.args.column d) c.in-Int.is c.index.ensures in
    let many = ap places here ∙ places_at c.self.inside.rows cols c.args.column (column.Int numbers) c.self.invariant.each within in
    let mask : c.in_ok-compare-in-Int.field-0 ≡ map (λ (row : List Value). compares_value c.args.op c.args.right (get_or row c.args.column value.Null)) c.args.self.now.rows =
    c.in_ok-compare-in-Int.ensures
    ∙ ((λ i. map (compares_number c.args.op (to_z-of_z w64 c.args.right (search rules) i)) numbers)
    ∙ (rows_compared c.args.op c.args.right c.self.inside.rows cols c.args.column numbers within (sym here) many
    ∙ ap (λ (seen : ByPlace). map (λ (row : List Value). compares_value c.args.op c.args.right (get_or row c.args.column value.Null)) seen.rows) c.self.view_is)) in
    let type : get_or c.args.self.now.kinds c.args.column kind.Str ≡ kind.Int =
    ap (λ (seen : ByPlace). get_or seen.kinds c.args.column kind.Str) (sym c.self.view_is)
    ∙ (kind_at cols c.args.column (column.Int numbers) kind.Str within ∙ ap kind_of (sym here)) in
    ap (λ (bits : List Bool). Some bits) mask
    ∙ ap (column_compared c.args.op c.args.right c.args.column c.args.self.now.rows) (sym type)

pub returns-in-Text : goal.returns-in-Text
returns-in-Text c =
    let cols = c.self.inside.columns.items in
    let within = column_within c.self.inside.rows cols c.args.self.now c.self.view_is c.args.column c.requires in
    let texts = c.in-Text.field-0 in
    let here : column.Text texts ≡ get_or cols c.args.column (column.Text texts) =
    subst (λ (d : Column). d ≡ get_or cols c.args.column d) c.in-Text.is c.index.ensures in
    let type : get_or c.args.self.now.kinds c.args.column kind.Str ≡ kind.Str =
    ap (λ (seen : ByPlace). get_or seen.kinds c.args.column kind.Str) (sym c.self.view_is)
    ∙ (kind_at cols c.args.column (column.Text texts) kind.Str within ∙ ap kind_of (sym here)) in
    ap (column_compared c.args.op c.args.right c.args.column c.args.self.now.rows) (sym type)
