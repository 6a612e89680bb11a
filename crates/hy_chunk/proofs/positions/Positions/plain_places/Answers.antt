use Rattle.std.proofs.Common.{◌≡◌, length, ap, arith}
use Rattle.hy_chunk.specs.Views.{Held}
use Rattle.hy_chunk.proofs.Places.{Fields, fields, length_all}
use Rattle.hy_chunk.proofs.Vacating.{plain_places}
use Rattle.hy_chunk.proofs.positions.Positions.plain_places.Goals as goal

pub invariant_of-result : goal.invariant_of-result
invariant_of-result c =
    let f : Fields = fields c.self.inside in
    let many : length c.bits.result.now ≡ length c.args.mask.now =
    omega (
      arith,
      c.requires.mask,
      ap length c.bits.ensures,
      ap (λ (h : Held). length h.places) c.self.view_is,
      length_all f,
      c.self.invariant.sound.lives,
      c.self.invariant.vacated.many,
    ) in
    record {
      many = many;
      within = omega (arith, c.requires.mask, c.requires.within);
      numbered = c.requires.numbered;
    }

pub returns : goal.returns
returns c =
    let f : Fields = fields c.self.inside in
    plain_places f c.self.inside.columns.kinds c.self.inside.spare c.args.self.now.places c.bits.result.now c.self.inside.vacant
    c.args.mask.now c.args.part.first c.args.part.end (ap (λ (h : Held). h.places) c.self.view_is) c.self.invariant.sound c.self.invariant.vacated
    c.bits.ensures c.requires.within
