use Rattle.std.proofs.Common.{◌≡◌, ◌-◌, ◌++◌, [], ◌∷◌}
use Rattle.hy_parse.specs.Reading.{span_of, links_at, links_within}
use Rattle.hy_parse.proofs.lists.others.Given as goal

abbrev pub invariant-loop : goal.invariant-loop
invariant-loop g l =
    links_within (span_of l.before) (λ items _ item. items ++ item ∷ []) g.T.Item.read_at (l.end - l.counter) l.items l.rest
    ≡ links_at (span_of l.before) (λ items _ item. items ++ item ∷ []) g.T.Item.read_at l.fn.items l.pieces
