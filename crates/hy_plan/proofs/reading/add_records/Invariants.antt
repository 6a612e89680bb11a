use Rattle.std.proofs.Common.{◌≡◌, ◌++◌, take, map}
use Rattle.hy_plan.proofs.reading.add_records.Given as goal

abbrev pub invariant-loop-condition : goal.invariant-loop-condition
invariant-loop-condition l =
    l.all ≡ l.fn.all ++ map (λ condition. record { statement = l.number; table = l.read.table; pred = condition; columns = l.read.columns }) (take l.condition-index l.read.conditions)
