use Rattle.std.proofs.Common.{length, ap, arith}
use Rattle.hy_chunk.specs.Views.{Held}
use Rattle.hy_chunk.proofs.Places.{Fields, fields, length_all}
use Rattle.hy_chunk.proofs.positions.Positions.len.Goals as goal

pub returns : goal.returns
returns c =
    let f : Fields = fields c.self.inside in
    omega (arith, c.len.ensures, c.self.inside.live.ok.0, c.self.invariant.sound.lives, length_all f, ap (λ (h : Held). length h.places) c.self.view_is)
