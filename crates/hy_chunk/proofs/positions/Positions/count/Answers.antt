use Rattle.std.proofs.Common.{length, sym, ap, ◌∙◌}
use Rattle.hy_undo.specs.Places.{Place}
use Rattle.hy_chunk.specs.Views.{Held}
use Rattle.hy_chunk.proofs.Places.{Fields, fields, nth_is, in_chains}
use Rattle.hy_chunk.proofs.positions.Positions.count.Goals as goal

pub count-requires : goal.count-requires
count-requires c =
    let f : Fields = fields c.self.inside in
    in_chains f c.self.inside.columns.kinds c.self.inside.spare c.args.self.now.places (ap (λ (h : Held). h.places) c.self.view_is)
    c.self.invariant.sound c.args.place c.requires

pub returns : goal.returns
returns c =
    let f : Fields = fields c.self.inside in
    c.count.ensures ∙ ap (λ (p : Place). length p.chain)
    (sym (nth_is f c.args.self.now.places c.args.place (ap (λ (h : Held). h.places) c.self.view_is) c.requires))
