use Rattle.std.proofs.Common.{ℕ, List, ◌++◌, ap, ◌∙◌}
use Rattle.hy_service.specs.Service.{closing}
use Rattle.hy_service.proofs.serving.closing_text.Goals as goal

pub returns : goal.returns
returns c = λ lines knows. (
  c.in_ok-outcome.ensures.outcome lines knows,
  c.in_ok-outcome.ensures.told lines knows
      ∙ ap (λ (items : List ℕ). items ++ closing c.args.server.now.options lines) (c.in_ok-text.ensures.items_if_clones_equal (λ x y e. e)),
)
