use Rattle.hy_cases.proofs.Starts.{wrong_starts}
use Rattle.hy_cases.proofs.Orders.{wrong_orders}
use Rattle.hy_cases.proofs.Commits.{wrong_commits}
use Rattle.hy_cases.proofs.wrong_orders_are_refused.Goals as goal

pub returns-clause-starts : goal.returns-clause-starts
returns-clause-starts c = wrong_starts

pub returns-clause-orders : goal.returns-clause-orders
returns-clause-orders c = wrong_orders

pub returns-clause-commits : goal.returns-clause-commits
returns-clause-commits c = wrong_commits
