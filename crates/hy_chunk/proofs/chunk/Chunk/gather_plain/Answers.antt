use Rattle.std.proofs.Common.{◌≡◌, ℕ, ◌-◌, ◌<◌, ◌++◌, List, [], length, map, get_or, sym, ap, ◌∙◌, arith, subst}
use Rattle.std.proofs.lemmas.List.{length-map}
use Rattle.std.proofs.lemmas.List.Elements.{All-same, All-weaker}
use Rattle.hy_value.specs.declared.Value.{Value}
use Rattle.hy_column.specs.Cells.{first_value}
use Rattle.hy_bound.specs.Predicate.{column_of}
use Rattle.hy_bound.specs.Records.{conjuncts}
use Rattle.hy_plan.specs.Cells.{GatheredRows}
use Rattle.hy_plan.specs.Placed.{row_picked}
use Rattle.hy_undo.specs.Places.{Place, in_place}
use Rattle.hy_chunk.specs.Fields.{nth}
use Rattle.hy_chunk.specs.Gathering.{gathered_of}
use Rattle.hy_chunk.specs.Masked.{Admits, Confirms}
use Rattle.hy_chunk.specs.Parts.{is_set_at, part_of, places_set}
use Rattle.hy_chunk.specs.Views.{Whole}
use Rattle.hy_chunk.proofs.Asking.{ok_weaker}
use Rattle.hy_chunk.proofs.Over.{fits_length}
use Rattle.hy_chunk.proofs.Places.{fits_first}
use Rattle.hy_chunk.proofs.Placing.{plain_rows, row_in_place, set_within}
use Rattle.hy_chunk.proofs.chunk.Chunk.gather_plain.Goals as goal

pub add_placed-requires-clause-places : goal.add_placed-requires-clause-places
add_placed-requires-clause-places c =
    let places = c.self.inside.positions.places in
    let many = length (map (λ (p : Place). p.version.row) places) in
    let view = ap (λ (w : Whole). length w.shown.places) c.self.view_is in
    All-same (λ (k : ℕ). k < length (map (λ (p : Place). p.version.row) places)) c.plain_places-places.result
    (places_set c.args.mask.now c.args.part.first c.args.part.end places) c.plain_places-places.ensures
    (set_within (is_set_at c.args.mask.now places) c.args.part.first (c.args.part.end - c.args.part.first)
    (length (map (λ (p : Place). p.version.row) places))
    (omega (arith, c.requires.ordered, c.requires.within, view, length-map places (λ (p : Place). p.version.row))))

pub add_placed-requires-clause-columns : goal.add_placed-requires-clause-columns
add_placed-requires-clause-columns c = λ place l.
    let places = c.self.inside.positions.places in
    let within : place < length places = omega (arith, l, length-map places (λ (p : Place). p.version.row)) in
    let row : get_or (map (λ (p : Place). p.version.row) places) place [] ≡ (nth places place).version.row = row_in_place places place within in
    let size = fits_length c.self.inside.positions.kinds (nth places place).version.row (c.rows_fit.ensures place within) in
    All-same (λ (k : ℕ). k < length (get_or (map (λ (p : Place). p.version.row) places) place [])) c.as_slice.result.now c.in_ok-columns.columns.items
    c.as_slice.ensures.value
    (All-weaker (λ (k : ℕ). k < c.width.result) (λ (k : ℕ). k < length (get_or (map (λ (p : Place). p.version.row) places) place []))
    (λ k m. omega (arith, m, ap length row, size, c.width.ensures)) c.in_ok-columns.columns.items c.in_ok-columns.ensures.within)

pub add_placed-requires-clause-width : goal.add_placed-requires-clause-width
add_placed-requires-clause-width c =
    let kinds = c.args.self.now.kinds in
    let row = map first_value kinds in
    let size : length row ≡ c.width.result =
    fits_length kinds row (fits_first kinds) ∙ sym (c.width.ensures ∙ ap (λ (w : Whole). length w.kinds) c.self.view_is) in
    ap length c.as_slice.ensures.value
    ∙ (sym (length-map c.in_ok-columns.columns.items (column_of row))
    ∙ (ap length (c.in_ok-columns.ensures.values row size) ∙ c.requires.fits row (fits_first kinds)))

pub returns-clause-rows : goal.returns-clause-rows
returns-clause-rows c =
    let places = c.self.inside.positions.places in
    let columns = c.args.wanted.now.columns in
    let pred = c.args.wanted.now.pred.now in
    let mask = c.args.mask.now in
    let before = c.args.gathered.now.rows in
    let view : places ≡ c.args.self.now.shown.places = ap (λ (w : Whole). w.shown.places) c.self.view_is in
    let admits : Admits (conjuncts pred) places mask = subst (λ (ps : List Place). Admits (conjuncts pred) ps mask) (sym view) c.requires.admits in
    let confirms : Confirms (conjuncts pred) places mask = subst (λ (ps : List Place). Confirms (conjuncts pred) ps mask) (sym view) c.requires.confirms in
    let rows : map (row_picked (map (λ (p : Place). p.version.row) places) c.as_slice.result.now) c.plain_places-places.result
    ≡ gathered_of columns pred (map in_place (part_of c.args.part.first c.args.part.end places)) =
    plain_rows columns pred mask places c.width.result c.args.part.first c.args.part.end c.plain_places-places.result c.as_slice.result.now admits confirms
    (λ k l. fits_length c.self.inside.positions.kinds (nth places k).version.row (c.rows_fit.ensures k l) ∙ sym c.width.ensures)
    (λ row size. ap (map (column_of row)) c.as_slice.ensures.value ∙ c.in_ok-columns.ensures.values row size)
    c.plain_places-places.ensures c.requires.ordered (omega (arith, c.requires.within, ap length view)) in
    ok_weaker c.add_placed.result _ (c.add_placed.new.self.rows ≡ before
    ++ gathered_of columns pred (map in_place (part_of c.args.part.first c.args.part.end c.args.self.now.shown.places)))
    (λ e. ap (λ (g : GatheredRows). g.rows) e
    ∙ (ap (λ (more : List (List Value)). before ++ more) rows
    ∙ ap (λ (ps : List Place). before ++ gathered_of columns pred (map in_place (part_of c.args.part.first c.args.part.end ps))) view))
    c.add_placed.ensures.ok
