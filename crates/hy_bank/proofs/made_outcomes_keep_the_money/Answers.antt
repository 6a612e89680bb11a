use Rattle.hy_bank.proofs.Outcomes.{outcomes_keep}
use Rattle.hy_bank.proofs.OutcomeAudits.{audits_are_told}
use Rattle.hy_bank.proofs.made_outcomes_keep_the_money.Goals as goal

pub returns-clause-money : goal.returns-clause-money
returns-clause-money c = outcomes_keep

pub returns-clause-audits : goal.returns-clause-audits
returns-clause-audits c = audits_are_told
