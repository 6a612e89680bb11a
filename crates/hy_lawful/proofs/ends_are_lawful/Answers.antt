use Rattle.hy_lawful.proofs.Laws.{lawful}
use Rattle.hy_lawful.proofs.SerialRuns.{serial_ends}
use Rattle.hy_lawful.proofs.ends_are_lawful.Goals as goal

pub returns-clause-lawful : goal.returns-clause-lawful
returns-clause-lawful c = lawful

pub returns-clause-serial : goal.returns-clause-serial
returns-clause-serial c = serial_ends c.transactions_have_run.ensures c.the_committed_passed_unseen.ensures c.what_is_unseen_leaves_a_run.ensures
    c.a_run_keeps_widths.ensures c.a_run_over_cells_is_alone.ensures.alone c.a_run_over_cells_is_alone.ensures.records
