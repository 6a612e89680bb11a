use Rattle.std.proofs.Common.{◌≡◌, List, map, ap, ◌∙◌}
use Rattle.hy_value.specs.declared.Value.{Value}
use Rattle.hy_bound.specs.Predicate.{column_of}
use Rattle.hy_undo.specs.Places.{Place}
use Rattle.hy_chunk.specs.Views.{Held}
use Rattle.hy_chunk.proofs.Masking.{rows_in_place, some_then}
use Rattle.hy_chunk.proofs.Places.{Fields, fields}
use Rattle.hy_chunk.proofs.positions.PositionsPlacedRows.numbers.Goals as goal

pub returns-then-column-width : goal.returns-then-column-width
returns-then-column-width c =
    let f : Fields = fields c.self.inside in
    let rows : f.rows ≡ map (λ (p : Place). p.version.row) c.args.self.now.places =
    rows_in_place f ∙ ap (λ (h : Held). map (λ (p : Place). p.version.row) h.places) c.self.view_is in
    some_then c.numbers.result (λ numbers told. told ∙ ap (map (λ (row : List Value). column_of row c.args.column)) rows) c.numbers.ensures
