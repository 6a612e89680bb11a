use Rattle.std.proofs.Common.{ℕ, List, ◌++◌, length, ap, ◌∙◌, subst}
use Rattle.std.specs.Prelude.{Contains}
use Rattle.hy_chunk.proofs.FoundEach.{places_within}
use Rattle.hy_chunk.proofs.positions.Positions.find_used.Goals as goal

pub returns-clause-within : goal.returns-clause-within
returns-clause-within c = λ place m.
    places_within (length c.args.self.now.places) c.find.result place c.find.ensures.within
    (subst (λ (xs : List ℕ). Contains xs place)
    (c.in_ok-add_places.ensures ∙ ap (λ (xs : List ℕ). xs ++ c.find.result) c.new-found.ensures.items)
    (c.sort_once.ensures.adds_none place m))
