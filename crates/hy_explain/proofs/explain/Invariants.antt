use Rattle.std.proofs.Common.{◌≡◌, take}
use Rattle.std.specs.Prelude.{flat_map}
use Rattle.hy_explain.specs.Explained.{txn_explained}
use Rattle.hy_explain.proofs.explain.Given as goal

-- what stands there is of those so far
abbrev pub invariant-loop-txn : goal.invariant-loop-txn
invariant-loop-txn l = l.out.items ≡ flat_map (txn_explained l.script l.outcome) (take l.txn-index l.outcome.txns)
