use Rattle.hy_undo.specs.Chunks.{Pruned}
use Rattle.hy_visit.proofs.Pruned.{all_falling, all_short, as_many}
use Rattle.hy_visit.proofs.pruning.prune_first.Goals as goal

pub returns-then-prunes-clause-falls : goal.returns-then-prunes-clause-falls
returns-then-prunes-clause-falls c =
    all_falling c.args.cover.now c.pruning_shrinks.ensures c.args.chunk.now.shown.places c.prune.new.self.shown.places c.requires c.prune.ensures.places

pub returns-then-prunes-clause-short : goal.returns-then-prunes-clause-short
returns-then-prunes-clause-short c = λ does.
    all_short c.args.cover.now c.pruning_shrinks.ensures c.args.chunk.now.shown.places c.prune.new.self.shown.places c.requires c.prune.ensures.places

pub returns-then-prunes-clause-many : goal.returns-then-prunes-clause-many
returns-then-prunes-clause-many c =
    as_many (Pruned c.args.cover.now) c.args.chunk.now.shown.places c.prune.new.self.shown.places c.prune.ensures.places
