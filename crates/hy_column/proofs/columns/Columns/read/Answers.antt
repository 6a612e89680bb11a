use Rattle.std.proofs.Common.{◌≡◌, ◌+◌, ◌<◌, ◌≤◌, List, [], ◌∷◌, ◌++◌, length, get_or, take, sym, ap, ◌∙◌, arith}
use Rattle.hy_value.specs.declared.Value.{Value}
use Rattle.hy_value.specs.Refs.{referred}
use Rattle.hy_column.specs.declared.columns.Column.{Column}
use Rattle.std.proofs.lemmas.List.{take_all, take_more, take_more_set, length-set, length-map}
use Rattle.hy_column.specs.Columns.{cell, places, kind_of}
use Rattle.hy_column.specs.Rows.{ByPlace, row_of}
use Rattle.hy_column.proofs.RowLists.{place_within, seen_row, places_at, cell_at}
use Rattle.hy_column.proofs.columns.Columns.read.Goals as goal

pub refer-requires : goal.refer-requires
refer-requires c =
    let cols = c.self.inside.columns.items in
    let within = place_within c.self.inside.rows cols c.args.self.now c.self.view_is c.args.place c.requires.within in
    let same = ap places c.index.ensures ∙ places_at c.self.inside.rows cols c.loop-column.column c.index.result.now c.self.invariant.each (omega (arith, c.loop-column-test.true, c.len-column-end.ensures, c.self.inside.columns.ok.0)) in
    omega (arith, within, same)

pub returns : goal.returns
returns c =
    let cols = c.self.inside.columns.items in
    let v = c.loop-column.invariant in
    let size = v.size in
    let n : length cols ≤ c.loop-column.column = omega (arith, c.loop-column-test.false, c.len-column-end.ensures, c.self.inside.columns.ok.0) in
    let width : length c.loop-column.row ≤ c.loop-column.column =
    omega (arith, n, size, c.requires.width, ap (λ (b : ByPlace). length b.kinds) c.self.view_is, length-map cols kind_of) in
    sym (take_all c.loop-column.column c.loop-column.row width)
    ∙ (v.done ∙ (take_all c.loop-column.column (row_of cols c.args.place) (omega (arith, n, length-map cols (λ column. cell column c.args.place)))
    ∙ sym (seen_row c.self.inside.rows cols c.args.self.now c.self.view_is c.args.place c.requires.within)))

pub loop-column-preserved : goal.loop-column-preserved
loop-column-preserved c =
    let cols = c.self.inside.columns.items in
    let k = c.loop-column.column in
    let row = c.loop-column.row in
    let v = c.loop-column.invariant in
    let size = v.size in
    let x = referred c.refer.result in
    let in_cols : k < length cols = omega (arith, c.loop-column-test.true, c.len-column-end.ensures, c.self.inside.columns.ok.0) in
    let in_row : k < length row = omega (arith, in_cols, size, c.requires.width, ap (λ (b : ByPlace). length b.kinds) c.self.view_is, length-map cols kind_of) in
    let in_made : k < length (row_of cols c.args.place) = omega (arith, in_cols, length-map cols (λ column. cell column c.args.place)) in
    let same : get_or (row_of cols c.args.place) k x ≡ x =
    cell_at cols c.args.place k c.index.result.now x in_cols ∙ (ap (λ (d : Column). cell d c.args.place) (sym c.index.ensures) ∙ sym c.refer.ensures) in
    record {
      done = ap (take (k + 1)) c.set.ensures
          ∙ (take_more_set row k x in_row
          ∙ (ap (λ (xs : List Value). xs ++ x ∷ []) v.done
          ∙ (ap (λ (y : Value). take k (row_of cols c.args.place) ++ y ∷ []) (sym same) ∙ sym (take_more (row_of cols c.args.place) k x in_made))));
      size = ap length c.set.ensures ∙ (length-set row k x ∙ v.size);
    }
