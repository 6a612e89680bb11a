use Rattle.std.proofs.Common.{sym, ap, ◌∙◌}
use Rattle.hy_chain.specs.Chains.{newest}
use Rattle.hy_undo.specs.Places.{Place}
use Rattle.hy_chunk.specs.Views.{Held}
use Rattle.hy_chunk.proofs.Places.{Fields, fields, nth_is, in_chains}
use Rattle.hy_chunk.proofs.positions.Positions.newest.Goals as goal

pub head-requires : goal.head-requires
head-requires c =
    let f : Fields = fields c.self.inside in
    in_chains f c.self.inside.columns.kinds c.self.inside.spare c.args.self.now.places (ap (λ (h : Held). h.places) c.self.view_is)
    c.self.invariant.sound c.args.place c.requires

pub returns : goal.returns
returns c =
    let f : Fields = fields c.self.inside in
    c.head.ensures ∙ ap (λ (p : Place). newest p.chain)
    (sym (nth_is f c.args.self.now.places c.args.place (ap (λ (h : Held). h.places) c.self.view_is) c.requires))
