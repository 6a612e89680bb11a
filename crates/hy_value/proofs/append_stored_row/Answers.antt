use Rattle.std.proofs.Common.{arith}
use Rattle.std.proofs.lemmas.Result.{on_ok_weaker}
use Rattle.hy_value.proofs.PrintedColumns.{printed_whole}
use Rattle.hy_value.proofs.append_stored_row.Goals as goal

pub returns-clause-ok : goal.returns-clause-ok
returns-clause-ok c = on_ok_weaker c.append_stored_others.result
    (λ rest. printed_whole c.args.out.now.items _ _ c.args.row.now _ (omega arith) (c.refer.ensures _) c.in_ok-append.ensures.ok rest)
    c.append_stored_others.ensures.ok
