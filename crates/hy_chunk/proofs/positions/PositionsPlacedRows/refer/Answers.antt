use Rattle.std.proofs.Common.{◌≡◌, ◌<◌, List, [], length, map, get_or, ap, ◌∙◌, arith}
use Rattle.std.proofs.lemmas.List.{get_or_default, length-map}
use Rattle.hy_value.specs.Refs.{referred}
use Rattle.hy_value.specs.declared.Value.{Value}
use Rattle.hy_value.specs.declared.Value.TheVariants.{Null}
use Rattle.hy_undo.specs.Places.{Place}
use Rattle.hy_chunk.specs.Views.{Held}
use Rattle.hy_chunk.proofs.Masking.{rows_in_place}
use Rattle.hy_chunk.proofs.Over.{fits_length}
use Rattle.hy_chunk.proofs.Places.{Fields, fields, fits_there, in_rows, nth_is}
use Rattle.hy_chunk.proofs.Placing.{row_in_place}
use Rattle.hy_chunk.proofs.positions.PositionsPlacedRows.refer.Goals as goal

pub refer-requires-clause-within : goal.refer-requires-clause-within
refer-requires-clause-within c =
    let places = c.args.self.now.places in
    in_rows (fields c.self.inside) c.self.inside.columns.kinds c.self.inside.spare places (ap (λ (h : Held). h.places) c.self.view_is)
    c.self.invariant.sound c.args.place (omega (arith, c.requires.place, length-map places (λ (p : Place). p.version.row)))

pub refer-requires-clause-column : goal.refer-requires-clause-column
refer-requires-clause-column c =
    let f : Fields = fields c.self.inside in
    let places = c.args.self.now.places in
    let view = ap (λ (h : Held). h.places) c.self.view_is in
    let within : c.args.place < length places = omega (arith, c.requires.place, length-map places (λ (p : Place). p.version.row)) in
    let row = row_in_place places c.args.place within ∙ ap (λ (p : Place). p.version.row) (nth_is f places c.args.place view within) in
    let size = fits_length c.self.inside.columns.kinds _
    (fits_there f c.self.inside.columns.kinds c.self.inside.spare places view c.self.invariant.sound c.args.place within).row in
    omega (arith, c.requires.column, ap length row, size)

pub returns : goal.returns
returns c =
    let f : Fields = fields c.self.inside in
    let places = c.args.self.now.places in
    let rows : f.rows ≡ map (λ (p : Place). p.version.row) places =
    rows_in_place f ∙ ap (λ (h : Held). map (λ (p : Place). p.version.row) h.places) c.self.view_is in
    let value = referred c.refer.result in
    c.refer.ensures
    ∙ (ap (λ (all : List (List Value)). get_or (get_or all c.args.place []) c.args.column value) rows
    ∙ get_or_default (get_or (map (λ (p : Place). p.version.row) places) c.args.place []) c.args.column value Null c.requires.column)
