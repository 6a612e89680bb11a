use Rattle.std.proofs.Common.{length, ap, arith}
use Rattle.hy_chunk.specs.Views.{Held}
use Rattle.hy_chunk.proofs.Places.{Fields, fields, length_all}
use Rattle.hy_chunk.proofs.Vacating.{none_free}
use Rattle.hy_chunk.proofs.positions.Positions.next_vacant.Goals as goal

pub next_set-requires : goal.next_set-requires
next_set-requires c =
    let f : Fields = fields c.self.inside in
    omega (arith, c.requires, ap (λ (h : Held). length h.places) c.self.view_is, length_all f, c.self.invariant.sound.lives, c.self.invariant.vacated.many)

pub returns-clause-within : goal.returns-clause-within
returns-clause-within c =
    let f : Fields = fields c.self.inside in
    omega (
      arith,
      c.next_set.ensures.within,
      ap (λ (h : Held). length h.places) c.self.view_is,
      length_all f,
      c.self.invariant.sound.lives,
      c.self.invariant.vacated.many,
    )

pub returns-clause-passed : goal.returns-clause-passed
returns-clause-passed c =
    let f : Fields = fields c.self.inside in
    let size = ap (λ (h : Held). length h.places) c.self.view_is in
    none_free f c.self.inside.columns.kinds c.self.inside.spare c.args.self.now.places c.self.inside.vacant c.args.from c.next_set.result
    (ap (λ (h : Held). h.places) c.self.view_is) c.self.invariant.sound c.self.invariant.vacated
    (omega (arith, c.next_set.ensures.within, size, length_all f, c.self.invariant.sound.lives, c.self.invariant.vacated.many)) c.next_set.ensures.passed
