use Rattle.std.proofs.Common.{◌≡◌, take}
use Rattle.std.specs.List.{AllByRecursion}
use Rattle.hy_chunk.specs.Views.{Whole}
use Rattle.hy_session.specs.Passing.{GoesPast}
use Rattle.hy_session.proofs.inserting.Sought.count_passed.Given as goal

abbrev pub invariant-loop-number : goal.invariant-loop-number
invariant-loop-number l = record {
  same : l.chunks ≡ l.fn.chunks;
  past : AllByRecursion
      (λ (chunk : Whole). GoesPast l.self.key l.self.viewer l.self.row.now l.self.prunes l.self.cover.now chunk.shown) (take l.number l.fn.chunks);
}
