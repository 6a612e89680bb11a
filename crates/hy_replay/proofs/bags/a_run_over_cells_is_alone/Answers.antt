use Rattle.hy_replay.proofs.Alones.{runs_are_alone, runs_log_alone}
use Rattle.hy_replay.proofs.bags.a_run_over_cells_is_alone.Goals as goal

pub returns-clause-alone : goal.returns-clause-alone
returns-clause-alone c = runs_are_alone c.only_the_bag_of_rows_matters.ensures.records c.only_the_bag_of_rows_matters.ensures.replies
    c.only_the_bag_of_rows_matters.ensures.databases

pub returns-clause-records : goal.returns-clause-records
returns-clause-records c = runs_log_alone c.only_the_bag_of_rows_matters.ensures.records c.only_the_bag_of_rows_matters.ensures.replies
    c.only_the_bag_of_rows_matters.ensures.databases
