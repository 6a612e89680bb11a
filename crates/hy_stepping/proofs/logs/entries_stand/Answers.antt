use Rattle.hy_stepping.proofs.ShownOrders.{all_stand, all_leave}
use Rattle.hy_stepping.proofs.logs.entries_stand.Goals as goal

pub returns-clause-stand : goal.returns-clause-stand
returns-clause-stand c = all_stand c.reached_rows_meet_demands.ensures c.reached_entries_stand.ensures c.entries_tell_changes.ensures

pub returns-clause-leave : goal.returns-clause-leave
returns-clause-leave c = all_leave c.reached_rows_meet_demands.ensures c.reached_entries_stand.ensures c.entries_tell_changes.ensures
