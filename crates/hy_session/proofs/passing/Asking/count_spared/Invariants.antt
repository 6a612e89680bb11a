use Rattle.std.proofs.Common.{take}
use Rattle.std.specs.List.{AllByRecursion}
use Rattle.hy_bound.specs.Condition.{Condition}
use Rattle.hy_chunk.specs.Gathering.{Asks}
use Rattle.hy_chunk.specs.Views.{Whole}
use Rattle.hy_value.specs.Refs.{referred}
use Rattle.hy_session.specs.Passing.{IsSpared}
use Rattle.hy_session.proofs.passing.Asking.count_spared.Given as goal

abbrev pub invariant-loop-number : goal.invariant-loop-number
invariant-loop-number l = record {
  spared : (pred : Condition) → Asks pred l.self.key.column (referred l.self.key.value)
      → AllByRecursion (λ (chunk : Whole). IsSpared l.self.prunes l.cover pred chunk.shown) (take l.number l.fn.chunks);
}
