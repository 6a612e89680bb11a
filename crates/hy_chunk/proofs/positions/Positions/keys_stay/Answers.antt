use Rattle.std.proofs.Common.{ap, ◌∙◌}
use Rattle.hy_chunk.specs.Views.{Held}
use Rattle.hy_chunk.proofs.Found.{stays}
use Rattle.hy_chunk.proofs.Places.{Fields, fields}
use Rattle.hy_chunk.proofs.positions.Positions.keys_stay.Goals as goal

pub returns : goal.returns
returns c = λ column viewer place row is l seen.
    let f : Fields = fields c.self.inside in
    stays f c.self.inside.columns.kinds c.self.inside.spare c.args.self.now.places (ap (λ (h : Held). h.places) c.self.view_is)
    c.self.invariant.sound c.self.inside.key column (ap (λ (h : Held). h.key) c.self.view_is ∙ is)
    c.self.inside.index c.self.invariant.indexed c.self.invariant.spared viewer place row l seen
