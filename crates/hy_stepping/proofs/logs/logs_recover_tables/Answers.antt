use Rattle.hy_stepping.proofs.Recovered.{logs_recover}
use Rattle.hy_stepping.proofs.logs.logs_recover_tables.Goals as goal

pub returns : goal.returns
returns c = logs_recover c.entries_stand.ensures.stand c.entries_stand.ensures.leave c.crashes_recover.ensures.logs
