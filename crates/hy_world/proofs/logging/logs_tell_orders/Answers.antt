use Rattle.hy_world.proofs.Logs.{tell_orders}
use Rattle.hy_world.proofs.logging.logs_tell_orders.Goals as goal

pub returns : goal.returns
returns c = tell_orders c.logs_recover_tables.ensures c.entries_tell_changes.ensures
