use Rattle.hy_bank.proofs.EndOutcomes.{end_in_four_ways}
use Rattle.hy_bank.proofs.EndCounts.{endings_add_up}
use Rattle.hy_bank.proofs.made_transactions_end_in_four_ways.Goals as goal

pub returns-clause-endings : goal.returns-clause-endings
returns-clause-endings c = end_in_four_ways

pub returns-clause-counts : goal.returns-clause-counts
returns-clause-counts c = endings_add_up
