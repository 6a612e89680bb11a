use Rattle.std.proofs.Common.{◌≡◌, drop}
use Rattle.hy_bound.specs.Predicate.{differ_from}
use Rattle.hy_bound.proofs.records.differ.Given as goal

-- no difference so far
abbrev pub invariant-loop-column : goal.invariant-loop-column
invariant-loop-column l = differ_from l.columns 0 l.before l.after ≡ differ_from l.columns l.column (drop l.column l.before) (drop l.column l.after)
