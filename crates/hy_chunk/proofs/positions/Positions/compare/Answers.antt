use Rattle.std.proofs.Common.{◌≡◌, ap, sym, ◌∙◌, Bool, List, Option, length, map, get_or, w64, rules, arith}
use Rattle.std.proofs.lemmas.Int.{to_z-of_z}
use Rattle.hy_value.specs.declared.Kind.TheVariants as kinds
use Rattle.hy_undo.specs.Places.{Place}
use Rattle.hy_column.specs.Compared.{column_compared}
use Rattle.hy_chunk.specs.Views.{Held}
use Rattle.hy_chunk.proofs.Places.{Fields, fields}
use Rattle.hy_chunk.proofs.Masking.{ok_weaker, past_end, rows_in_place}
use Rattle.hy_chunk.proofs.positions.Positions.compare.Goals as goal

pub returns-then-column-width : goal.returns-then-column-width
returns-then-column-width c =
    let f : Fields = fields c.self.inside in
    let column = c.args.column in
    ok_weaker c.compare.result _
    (λ (found : Option (List Bool)). found ≡ column_compared c.args.op c.args.right column (map (λ (p : Place). p.version.row) c.args.self.now.places)
    (get_or c.args.self.now.kinds column kinds.Str))
    (λ found told. told
    ∙ ((λ i. column_compared c.args.op (to_z-of_z w64 c.args.right (search rules) i) column (rows_in_place f i) (get_or c.self.inside.columns.kinds column kinds.Str))
    ∙ ap (λ (h : Held). column_compared c.args.op c.args.right column (map (λ (p : Place). p.version.row) h.places) (get_or h.kinds column kinds.Str)) c.self.view_is))
    c.compare.ensures

pub returns-else-column-width : goal.returns-else-column-width
returns-else-column-width c =
    let none : get_or c.args.self.now.kinds c.args.column kinds.Str ≡ kinds.Str =
    past_end c.args.self.now.kinds c.args.column kinds.Str
    (omega (arith, c.if-column-width.false, c.width.ensures, ap (λ (h : Held). length h.kinds) c.self.view_is)) in
    ap (column_compared c.args.op c.args.right c.args.column (map (λ (p : Place). p.version.row) c.args.self.now.places)) (sym none)
