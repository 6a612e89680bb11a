use Rattle.hy_gen.specs.Transactions.{transfer_from}
use Rattle.hy_gen.proofs.draws.Draws.draw_transfer.Goals as goal

pub returns-clause-parts : goal.returns-clause-parts
unfolding transfer_from
returns-clause-parts c = cc
