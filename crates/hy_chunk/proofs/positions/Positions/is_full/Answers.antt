use Rattle.std.proofs.Common.{length, ap, arith}
use Rattle.hy_chunk.specs.Views.{Held}
use Rattle.hy_chunk.proofs.Places.{Fields, fields, length_all}
use Rattle.hy_chunk.proofs.Vacating.{none_free}
use Rattle.hy_chunk.proofs.positions.Positions.is_full.Goals as goal

pub returns : goal.returns
returns c = λ blank.
    let f : Fields = fields c.self.inside in
    let size = ap (λ (h : Held). length h.places) c.self.view_is in
    none_free f c.self.inside.columns.kinds c.self.inside.spare c.args.self.now.places c.self.inside.vacant 0 (length c.args.self.now.places)
    (ap (λ (h : Held). h.places) c.self.view_is) c.self.invariant.sound c.self.invariant.vacated (omega arith)
    (λ place reached before. c.is_blank.ensures blank place
    (omega (arith, before, size, length_all f, c.self.invariant.sound.lives, c.self.invariant.vacated.many)))
