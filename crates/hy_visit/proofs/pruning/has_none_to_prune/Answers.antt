use Rattle.hy_visit.proofs.Pruned.{all_short}
use Rattle.hy_visit.proofs.pruning.has_none_to_prune.Goals as goal

pub returns-else-not-prunes-clause-short : goal.returns-else-not-prunes-clause-short
returns-else-not-prunes-clause-short c = λ pruned does.
    let places = c.args.chunk.now.shown.places in
    all_short c.args.cover.now c.pruning_shrinks.ensures places places c.requires (c.is_pruned.ensures pruned)
