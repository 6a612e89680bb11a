use Rattle.std.proofs.Common.{◌≡◌, ◌+◌, ◌-◌, ◌≤◌, ◌++◌}
use Rattle.hy_meaning.specs.Statement.{Table}
use Rattle.hy_gathered.specs.Groups.{groups_by}
use Rattle.hy_gathered.specs.Shares.{run_of}
use Rattle.hy_gathered.proofs.tally.Grouping.add_run.Given as goal

-- the rows so far are counted
abbrev pub invariant-loop-index : goal.invariant-loop-index
invariant-loop-index l = record {
  order : l.from ≤ l.index;
  rows : l.tally.rows ≡ l.fn.tally.rows + (l.index - l.from);
  groups : (rows : Table) → l.fn.tally.groups ≡ groups_by l.fn.self rows
      → l.tally.groups ≡ groups_by l.fn.self (rows ++ run_of l.from l.index l.piece.rows);
}
