use Rattle.std.proofs.Common.{List, sym, ap, subst}
use Rattle.hy_value.specs.declared.Kind.{Kind}
use Rattle.hy_undo.specs.Places.{Place}
use Rattle.hy_chunk.specs.Views.{Held}
use Rattle.hy_chunk.specs.Fields.{nth}
use Rattle.hy_chunk.specs.Sound.{FitsRow}
use Rattle.hy_chunk.proofs.Places.{Fields, fields, fits_there, nth_is}
use Rattle.hy_chunk.proofs.positions.Positions.rows_fit.Goals as goal

pub returns : goal.returns
returns c = λ place l.
    let f : Fields = fields c.self.inside in
    let places = c.args.self.now.places in
    let view = ap (λ (h : Held). h.places) c.self.view_is in
    subst (λ (kinds : List Kind). FitsRow kinds (nth places place).version.row) (ap (λ (h : Held). h.kinds) c.self.view_is)
    (subst (λ (p : Place). FitsRow c.self.inside.columns.kinds p.version.row) (sym (nth_is f places place view l))
    (fits_there f c.self.inside.columns.kinds c.self.inside.spare places view c.self.invariant.sound place l).row)
