use Rattle.std.proofs.lemmas.Result.{on_ok_weaker}
use Rattle.hy_render.proofs.PrintedRows.{quoted}
use Rattle.hy_render.proofs.rows.print_text.Goals as goal

pub returns-clause-ok : goal.returns-clause-ok
returns-clause-ok c =
    on_ok_weaker c.put-2.result (λ e. quoted c.args.out.now.items _ _ _ _ c.in_ok-put.ensures.ok c.in_ok-print_inside.ensures.ok e) c.put-2.ensures.ok
