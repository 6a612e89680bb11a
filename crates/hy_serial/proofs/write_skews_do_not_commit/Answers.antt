use Rattle.hy_serial.proofs.Commits.{readers_first, no_skews, no_lost_updates}
use Rattle.hy_serial.proofs.write_skews_do_not_commit.Goals as goal

pub returns-clause-order : goal.returns-clause-order
returns-clause-order c = readers_first

pub returns-clause-skews : goal.returns-clause-skews
returns-clause-skews c = no_skews

pub returns-clause-updates : goal.returns-clause-updates
returns-clause-updates c = no_lost_updates
