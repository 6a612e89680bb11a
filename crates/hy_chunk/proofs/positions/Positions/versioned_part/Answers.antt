use Rattle.std.proofs.Common.{length, ap, ◌∙◌, inl, inr, arith}
use Rattle.hy_undo.specs.Places.{Place}
use Rattle.hy_chunk.specs.Views.{Held}
use Rattle.hy_chunk.proofs.Places.{Fields, fields, length_all, nth_is}
use Rattle.hy_chunk.proofs.Ranges.{apart_none}
use Rattle.hy_chunk.proofs.positions.Positions.versioned_part.Goals as goal

pub returns-clause-within : goal.returns-clause-within
returns-clause-within c =
    let view = ap (λ (h : Held). length h.places) c.self.view_is in
    let lives = c.self.invariant.sound.lives in
    omega (arith, c.min-end.ensures, c.len.ensures, c.self.inside.live.ok.0, lives, view, length_all (fields c.self.inside))

pub returns-clause-others : goal.returns-clause-others
returns-clause-others c = λ place l out.
    let f : Fields = fields c.self.inside in
    let view = ap (λ (h : Held). length h.places) c.self.view_is in
    let lives = c.self.invariant.sound.lives in
    ap (λ (p : Place). p.chain) (nth_is f c.args.self.now.places place (ap (λ (h : Held). h.places) c.self.view_is) l)
    ∙ apart_none c.self.inside.versioned f.chains place c.self.invariant.covered (λ is.
    let first = is.0 in
    let below = is.1 in
    elim out [
      | inl before ↦ omega (arith, before, c.min-first.ensures, first)
      | inr behind ↦ omega (arith, behind, below, l, c.min-end.ensures, c.len.ensures, c.self.inside.live.ok.0, lives, view, length_all f)
    ])
