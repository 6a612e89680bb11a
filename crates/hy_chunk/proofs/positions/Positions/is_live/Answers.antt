use Rattle.std.proofs.Common.{false, sym, ap, ◌∙◌, arith}
use Rattle.std.proofs.lemmas.List.{get_or_read}
use Rattle.hy_undo.specs.Places.{Place}
use Rattle.hy_chunk.specs.Views.{Held}
use Rattle.hy_chunk.proofs.Places.{Fields, fields, nth_is, in_live}
use Rattle.hy_chunk.proofs.positions.Positions.is_live.Goals as goal

pub index-requires : goal.index-requires
index-requires c =
    let f : Fields = fields c.self.inside in
    omega (
      arith,
      in_live f c.self.inside.columns.kinds c.self.inside.spare c.args.self.now.places (ap (λ (h : Held). h.places) c.self.view_is)
          c.self.invariant.sound c.args.place c.requires,
      c.self.inside.live.ok.0,
    )

pub returns : goal.returns
returns c =
    let f : Fields = fields c.self.inside in
    get_or_read f.live c.args.place c.index.result.now
    (in_live f c.self.inside.columns.kinds c.self.inside.spare c.args.self.now.places (ap (λ (h : Held). h.places) c.self.view_is)
    c.self.invariant.sound c.args.place c.requires) c.index.ensures false
    ∙ ap (λ (p : Place). p.version.live) (sym (nth_is f c.args.self.now.places c.args.place (ap (λ (h : Held). h.places) c.self.view_is) c.requires))
