use Rattle.std.proofs.Common.{◌≡◌, take, map}
use Rattle.hy_bound.specs.Records.{conjoined}
use Rattle.hy_plan.specs.Reads.{key_is_value}
use Rattle.hy_plan.proofs.reading.for_each.Given as goal

abbrev pub invariant-loop-value : goal.invariant-loop-value
invariant-loop-value l = l.all ≡ map (λ value. conjoined l.condition (key_is_value l.key value)) (take l.value-index l.values)
