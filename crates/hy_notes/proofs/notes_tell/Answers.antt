use Rattle.hy_notes.proofs.Tells.{notes_tell_more, telling_is_one}
use Rattle.hy_notes.proofs.notes_tell.Goals as goal

pub returns : goal.returns
returns c = record { more = notes_tell_more; one = telling_is_one }
