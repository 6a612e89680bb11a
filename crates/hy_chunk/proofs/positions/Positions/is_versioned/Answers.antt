use Rattle.std.proofs.Common.{sym, ap, ◌∙◌}
use Rattle.hy_undo.specs.Places.{Place}
use Rattle.hy_chunk.specs.Views.{Held}
use Rattle.hy_chunk.proofs.Places.{Fields, fields, nth_is}
use Rattle.hy_chunk.proofs.Ranges.{outside_none}
use Rattle.hy_chunk.proofs.positions.Positions.is_versioned.Goals as goal

pub returns : goal.returns
returns c = λ out.
    let f : Fields = fields c.self.inside in
    ap (λ (p : Place). p.chain) (nth_is f c.args.self.now.places c.args.place (ap (λ (h : Held). h.places) c.self.view_is) c.requires)
    ∙ outside_none c.self.inside.versioned f.chains c.args.place c.self.invariant.covered (sym c.is_in.ensures ∙ out)
