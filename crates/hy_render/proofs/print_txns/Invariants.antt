use Rattle.std.proofs.Common.{◌≡◌, ◌++◌, take}
use Rattle.std.specs.List.{flat_map}
use Rattle.hy_render.specs.Report.{txn_text}
use Rattle.hy_render.proofs.print_txns.Given as goal

-- what stands there is of those so far
abbrev pub invariant-loop-txn : goal.invariant-loop-txn
invariant-loop-txn l = l.out.items ≡ l.fn.out.items ++ flat_map (txn_text l.names) (take l.txn-index l.txns)
