use Rattle.std.proofs.Common.{sym, ap, ◌∙◌, subst, ◌≤◌}
use Rattle.hy_undo.specs.Stock.{Stock, blank}
use Rattle.hy_undo.proofs.Stocks.{stocked_more}
use Rattle.hy_undo.proofs.spares.Spares.keep_image.Goals as goal

pub invariant_of-self-2 : goal.invariant_of-self-2
invariant_of-self-2 c =
    let view = c.self.view_is in
    stocked_more c.self.inside.images.items c.push.new.self.items c.args.image c.self.inside.columns c.self.inside.texts c.self.inside.free _ c.self.invariant
    c.in_ok-push.ensures.items (c.requires.blank ∙ ap (λ (s : Stock). blank s.columns) (sym view))
    (subst (λ (s : Stock). s.texts ≤ s.free) (sym view) c.requires.free)
