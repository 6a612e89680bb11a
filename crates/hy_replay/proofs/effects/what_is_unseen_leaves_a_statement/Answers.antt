use Rattle.hy_replay.proofs.EffectResults.{results_again}
use Rattle.hy_replay.proofs.EffectUnseen.{changes_again, inserts_find_again, once_again}
use Rattle.hy_replay.proofs.effects.what_is_unseen_leaves_a_statement.Goals as goal

pub returns-clause-changes : goal.returns-clause-changes
returns-clause-changes c = changes_again c.a_row_is_changed_by_what_is_read.ensures.selected

pub returns-clause-results : goal.returns-clause-results
returns-clause-results c = results_again c.a_row_is_changed_by_what_is_read.ensures.selected

pub returns-clause-inserts : goal.returns-clause-inserts
returns-clause-inserts c = inserts_find_again c.a_row_is_changed_by_what_is_read.ensures.selected

pub returns-clause-statements : goal.returns-clause-statements
returns-clause-statements c = once_again c.changes_that_miss_are_unseen.ensures.records c.changes_that_miss_are_unseen.ensures.replies
    c.a_row_is_changed_by_what_is_read.ensures.selected
