use Rattle.std.proofs.lemmas.Result.{on_ok_weaker}
use Rattle.hy_render.proofs.Decimals.{printed_long}
use Rattle.hy_render.proofs.digits.print_long.Goals as goal

pub returns-in_ok-print_short-clause-ok : goal.returns-in_ok-print_short-clause-ok
returns-in_ok-print_short-clause-ok c =
    on_ok_weaker c.print_four.result
    (λ e. printed_long c.args.out.now.items _ _ c.args.number c.requires c.if-number-lt100000000.true c.in_ok-print_short.ensures.ok e) c.print_four.ensures.ok
