use Rattle.std.proofs.Common.{ap, ◌∙◌, ℕ, List, [], ◌∷◌, ◌++◌}
use Rattle.hy_trace.proofs.trace.Goals as goal

pub returns : goal.returns
returns c =
    c.in_ok-put.ensures
    ∙ ap (λ (text : List ℕ). text ++ 101 ∷ 110 ∷ 100 ∷ 10 ∷ []) (c.in_ok-trace_run.ensures c.args.setting c.in_ok-world.ensures.shows)
