use Rattle.std.proofs.Common.{arith}
use Rattle.std.proofs.lemmas.Result.{on_ok_weaker}
use Rattle.hy_render.proofs.PrintedRows.{printed_whole}
use Rattle.hy_render.proofs.rows.print_row.Goals as goal

pub returns-clause-ok : goal.returns-clause-ok
returns-clause-ok c = on_ok_weaker c.print_others.result
    (λ rest. printed_whole c.args.out.now.items _ _ c.args.row.now _ (omega arith) (c.refer.ensures _) c.in_ok-print_value.ensures.ok rest)
    c.print_others.ensures.ok
