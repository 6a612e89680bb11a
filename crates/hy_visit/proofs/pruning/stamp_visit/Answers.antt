use Rattle.hy_visit.proofs.Stamped.{all_fall_still}
use Rattle.hy_visit.proofs.pruning.stamp_visit.Goals as goal

pub prune_first-requires : goal.prune_first-requires
prune_first-requires c =
    all_fall_still c.args.id c.args.time c.args.chunk.now.shown.places c.stamp.new.self.shown.places c.requires.falls c.requires.under c.stamp.ensures.places
