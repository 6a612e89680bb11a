use Rattle.hy_refinement.proofs.Hits.{entry_changes}
use Rattle.hy_refinement.proofs.visits.entries_tell_changes.Goals as goal

pub returns : goal.returns
returns c = entry_changes c.notes_tell.ensures.one
