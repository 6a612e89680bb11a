use Rattle.std.proofs.Common.{ap, ◌%◌}
use Rattle.std.specs.Prelude.{◌==◌}
use Rattle.hy_gen.specs.Transactions.{is_audit}
use Rattle.hy_gen.proofs.draws.Draws.draw_kind.Goals as goal

pub returns-clause-kind : goal.returns-clause-kind
unfolding is_audit
returns-clause-kind c = ap (λ n. n % 4 == 0) c.draw.ensures.drawn
