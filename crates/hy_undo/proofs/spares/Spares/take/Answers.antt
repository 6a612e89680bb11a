use Rattle.std.proofs.Common.{ap, ◌∙◌}
use Rattle.hy_undo.specs.Stock.{Stock, blank}
use Rattle.hy_undo.proofs.Stocks.{stocked_fewer}
use Rattle.hy_undo.proofs.spares.Spares.take.Goals as goal

pub invariant_of-self : goal.invariant_of-self
invariant_of-self c =
    (stocked_fewer c.self.inside.images.items c.pop.new.self.items c.in-Some.image c.self.inside.columns c.self.inside.texts c.self.inside.free _ c.self.invariant
    c.in-Some.ensures.items).0

pub returns-clause-image : goal.returns-clause-image
returns-clause-image c =
    (stocked_fewer c.self.inside.images.items c.pop.new.self.items c.in-Some.image c.self.inside.columns c.self.inside.texts c.self.inside.free _ c.self.invariant
    c.in-Some.ensures.items).1 ∙ ap (λ (s : Stock). blank s.columns) c.self.view_is
