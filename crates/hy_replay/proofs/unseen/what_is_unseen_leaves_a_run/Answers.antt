use Rattle.hy_replay.proofs.Runs.{runs_again}
use Rattle.hy_replay.proofs.unseen.what_is_unseen_leaves_a_run.Goals as goal

pub returns : goal.returns
returns c = runs_again c.changes_that_miss_are_unseen.ensures.records c.changes_that_miss_are_unseen.ensures.replies
    c.a_row_is_changed_by_what_is_read.ensures.selected
