use Rattle.std.proofs.Common.{get_or, [], ◌∙◌}
use Rattle.hy_gathered.proofs.Placed.{stands_at}
use Rattle.hy_gathered.proofs.sums.PartColumn.refer.Goals as goal

pub returns-in-None : goal.returns-in-None
returns-in-None c = stands_at c.args.self _ (get_or c.args.piece.now.rows c.args.index []) c.in-None.is

pub returns-in-Some : goal.returns-in-Some
returns-in-Some c = c.refer.ensures ∙ stands_at c.args.self _ (get_or c.args.piece.now.rows c.args.index []) c.in-Some.is
