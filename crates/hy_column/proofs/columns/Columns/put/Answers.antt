use Rattle.std.proofs.Common.{◌≡◌, List, [], get_or, subst, sym, ap, ◌∙◌, arith}
use Rattle.std.proofs.Math.ListN.{set}
use Rattle.hy_value.specs.declared.Value.{Value}
use Rattle.hy_value.specs.declared.Kind.{Kind}
use Rattle.hy_value.specs.Refs.{referred}
use Rattle.hy_column.specs.declared.columns.Column.{Column}
use Rattle.hy_column.specs.Cells.{FitsKind}
use Rattle.hy_column.specs.Columns.{places, kind_of}
use Rattle.hy_column.specs.Rows.{ByPlace, rows_of, kinds_of, AreAsMany}
use Rattle.hy_column.proofs.RowLists.{place_within, column_within, seen_row, places_at, kind_at, changed_lie, changed_kinds, changed_rows}
use Rattle.hy_column.proofs.columns.Columns.put.Goals as goal

pub put-requires-clause-within : goal.put-requires-clause-within
put-requires-clause-within c =
    let cols = c.self.inside.columns.items in
    let within = place_within c.self.inside.rows cols c.args.self.now c.self.view_is c.args.place c.requires.within in
    let column = column_within c.self.inside.rows cols c.args.self.now c.self.view_is c.args.column c.requires.column in
    let same = ap places c.index_mut-column.ensures.value ∙ places_at c.self.inside.rows cols c.args.column c.index_mut-column.result.now c.self.invariant.each column in
    omega (arith, within, same)

pub invariant_of-self : goal.invariant_of-self
invariant_of-self c =
    let cols = c.self.inside.columns.items in
    let column = column_within c.self.inside.rows cols c.args.self.now c.self.view_is c.args.column c.requires.column in
    subst (λ (d : Column). AreAsMany c.self.inside.rows (set cols c.args.column d)) (sym c.put.ensures)
    (record { each = changed_lie c.self.inside.rows cols c.args.column c.args.place c.index_mut-column.result.now (referred c.args.value) column c.index_mut-column.ensures.value c.self.invariant.each })

pub returns-clause-kinds : goal.returns-clause-kinds
returns-clause-kinds c =
    let cols = c.self.inside.columns.items in
    let column = column_within c.self.inside.rows cols c.args.self.now c.self.view_is c.args.column c.requires.column in
    ap (λ (d : Column). kinds_of (set cols c.args.column d)) c.put.ensures
    ∙ (changed_kinds c.self.inside.rows cols c.args.column c.args.place c.index_mut-column.result.now (referred c.args.value) column c.index_mut-column.ensures.value c.self.invariant.each
    ∙ ap (λ (b : ByPlace). b.kinds) c.self.view_is)

pub returns-clause-rows : goal.returns-clause-rows
returns-clause-rows c =
    let cols = c.self.inside.columns.items in
    let was = c.index_mut-column.result.now in
    let within = place_within c.self.inside.rows cols c.args.self.now c.self.view_is c.args.place c.requires.within in
    let column = column_within c.self.inside.rows cols c.args.self.now c.self.view_is c.args.column c.requires.column in
    let kind : get_or c.args.self.now.kinds c.args.column _ ≡ kind_of was =
    ap (λ (b : ByPlace). get_or b.kinds c.args.column _) (sym c.self.view_is) ∙ (kind_at cols c.args.column was _ column ∙ ap kind_of (sym c.index_mut-column.ensures.value)) in
    ap (λ (d : Column). rows_of c.self.inside.rows (set cols c.args.column d)) c.put.ensures
    ∙ (changed_rows c.self.inside.rows cols c.args.column c.args.place was (referred c.args.value) column c.index_mut-column.ensures.value c.self.invariant.each
    (subst (λ (k : Kind). FitsKind k (referred c.args.value)) kind c.requires.fits) within
    ∙ (ap (λ (row : List Value). set (rows_of c.self.inside.rows cols) c.args.place (set row c.args.column (referred c.args.value)))
    (sym (seen_row c.self.inside.rows cols c.args.self.now c.self.view_is c.args.place c.requires.within))
    ∙ ap (λ (b : ByPlace). set b.rows c.args.place (set (get_or c.args.self.now.rows c.args.place []) c.args.column (referred c.args.value))) c.self.view_is))
