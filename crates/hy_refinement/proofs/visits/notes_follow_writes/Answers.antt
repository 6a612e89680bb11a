use Rattle.hy_refinement.proofs.FramesNotes.{follow}
use Rattle.hy_refinement.proofs.visits.notes_follow_writes.Goals as goal

pub returns : goal.returns
returns c = follow c.notes_tell.ensures.more
