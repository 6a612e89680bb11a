use Rattle.hy_value.specs.Refs.{referred}
use Rattle.hy_visit.proofs.Spared.{selects_none}
use Rattle.hy_visit.proofs.sparing.AskedKey.is_spared.Goals as goal

pub returns-then-has_none_to_prune-clause-none : goal.returns-then-has_none_to_prune-clause-none
returns-then-has_none_to_prune-clause-none c = λ lacks pred asks.
    selects_none pred c.args.self.column (referred c.args.self.value) asks c.args.chunk.now.shown.places (c.lacks_key.ensures lacks)
