use Rattle.std.proofs.Common.{◌≡◌, ◌*◌, ◌<◌, List, length, take, drop, subst, sym, ap, ◌∙◌}
use Rattle.hy_value.specs.declared.Value.{Value}
use Rattle.hy_bound.specs.declared.Shape.{Shape}
use Rattle.hy_bound.specs.Records.{shape_of}
use Rattle.hy_world.specs.Openings.{first_rows, rows_in}
use Rattle.hy_world.proofs.OpenedWorlds.{kinds_there, rows_there, rows_fit, laid_from}
use Rattle.hy_world.proofs.opening.table_chunk.Goals as goal

pub table_kinds-types-requires : goal.table_kinds-types-requires
table_kinds-types-requires c = kinds_there c.args.setting.now c.args.kinds.now c.args.table c.requires.typed c.requires.table

pub table_rows-all-requires : goal.table_rows-all-requires
table_rows-all-requires c =
    subst (λ (first : List (List (List Value))). c.args.table < length first) (sym c.as_slice-2.ensures)
    (rows_there c.args.setting.now c.args.kinds.now c.args.table c.requires.typed c.requires.table)

pub load_rows-requires-clause-fit : goal.load_rows-requires-clause-fit
load_rows-requires-clause-fit c =
    let setting = c.args.setting.now in
    let all = c.table_rows-all.ensures ∙ ap (λ (first : List (List (List Value))). first_rows first c.args.table) c.as_slice-2.ensures in
    let rows : c.rows_from.result.now ≡ rows_in setting c.args.table c.args.number =
    c.rows_from.ensures ∙ ap (λ (rows : List (List Value)). take setting.rows (drop (c.args.number * setting.rows) rows)) all in
    rows_fit setting c.args.kinds.now c.args.table c.args.number c.in_ok-chunk.chunk.kinds c.rows_from.result.now c.requires.typed c.requires.table
    (c.in_ok-chunk.ensures.kinds ∙ c.table_kinds-types.ensures) rows

pub returns : goal.returns
returns c =
    let setting = c.args.setting.now in
    let all = c.table_rows-all.ensures ∙ ap (λ (first : List (List (List Value))). first_rows first c.args.table) c.as_slice-2.ensures in
    let rows : c.rows_from.result.now ≡ rows_in setting c.args.table c.args.number =
    c.rows_from.ensures ∙ ap (λ (rows : List (List Value)). take setting.rows (drop (c.args.number * setting.rows) rows)) all in
    let key = ap (λ (shape : Shape). shape.key) (c.table_shape-key.ensures ∙ ap (λ (shapes : List Shape). shape_of shapes c.args.table) c.as_slice.ensures) in
    laid_from setting c.args.kinds.now c.args.table c.args.number c.table_kinds-types.result.now c.table_shape-key.result.key c.rows_from.result.now
    c.in_ok-chunk.chunk c.load_rows.new.chunk c.in_ok-chunk.ensures.shown c.in_ok-chunk.ensures.kinds c.table_kinds-types.ensures key rows
    c.in_ok-load_rows.ensures
