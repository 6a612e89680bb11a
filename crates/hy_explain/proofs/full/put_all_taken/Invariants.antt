use Rattle.std.proofs.Common.{◌≡◌, ◌++◌, take}
use Rattle.std.specs.Prelude.{flat_map}
use Rattle.hy_explain.specs.Explained.{taken_by}
use Rattle.hy_explain.proofs.full.put_all_taken.Given as goal

-- what stands there is of those so far
abbrev pub invariant-loop-other : goal.invariant-loop-other
invariant-loop-other l = l.out.items
    ≡ l.fn.out.items ++ flat_map (taken_by l.told.script.now l.told.outcome.now l.txn l.table) (take l.other-index l.others)
