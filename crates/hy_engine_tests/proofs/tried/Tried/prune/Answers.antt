use Rattle.hy_engine_tests.proofs.Visits.{places_fall}
use Rattle.hy_engine_tests.proofs.Wholes.{after_prune}
use Rattle.hy_engine_tests.proofs.tried.Tried.prune.Goals as goal

pub prune-requires : goal.prune-requires
prune-requires c = places_fall c.self.inside.next c.self.inside.chunk.shown.places c.self.invariant.ordered

pub invariant_of-self : goal.invariant_of-self
invariant_of-self c =
    after_prune c.pruning_shrinks.ensures c.pruning_keeps_stamps.ensures c.args.open.now.cover c.self.inside.next c.self.inside.chunk c.prune.new.self
    c.self.invariant
    c.prune.ensures.all c.prune.ensures.places
