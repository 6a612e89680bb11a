use Rattle.std.proofs.Common.{rules, append_assoc}
use Rattle.std.proofs.lemmas.Result.{IfOk-equal}
use Rattle.hy_render.proofs.print_ending.Goals as goal

pub returns-in_ok-put-in-Invalid-2-clause-ok : goal.returns-in_ok-put-in-Invalid-2-clause-ok
returns-in_ok-put-in-Invalid-2-clause-ok c = search (rules, IfOk-equal, append_assoc)
