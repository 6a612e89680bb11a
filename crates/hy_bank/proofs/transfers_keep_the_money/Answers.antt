use Rattle.hy_bank.proofs.Money.{money_kept}
use Rattle.hy_bank.proofs.transfers_keep_the_money.Goals as goal

pub returns : goal.returns
returns c = money_kept
