use Rattle.std.proofs.Common.{◌≡◌, ◌+◌, ◌≤◌, drop}
use Rattle.hy_render.specs.Summary.{is_committed, is_read, is_conflict, is_invalid, ended_so}
use Rattle.hy_render.proofs.summary.count_endings.Given as goal

-- of each kind those so far and those of the rest
abbrev pub invariant-loop-txn : goal.invariant-loop-txn
invariant-loop-txn l = record {
  committed : l.endings.committed + ended_so is_committed (drop l.txn-index l.txns) ≡ ended_so is_committed l.txns;
  read : l.endings.read + ended_so is_read (drop l.txn-index l.txns) ≡ ended_so is_read l.txns;
  conflict : l.endings.conflict + ended_so is_conflict (drop l.txn-index l.txns) ≡ ended_so is_conflict l.txns;
  invalid : l.endings.invalid + ended_so is_invalid (drop l.txn-index l.txns) ≡ ended_so is_invalid l.txns;
  few : (l.endings.committed ≤ l.txn-index) × (l.endings.read ≤ l.txn-index) × (l.endings.conflict ≤ l.txn-index) × (l.endings.invalid ≤ l.txn-index);
}
