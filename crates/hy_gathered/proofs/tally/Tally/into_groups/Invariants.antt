use Rattle.std.proofs.Common.{◌≡◌}
use Rattle.hy_gathered.specs.Tally.{groups_in}
use Rattle.hy_gathered.proofs.tally.Tally.into_groups.Given as goal

-- the groups of the entries so far
abbrev pub invariant-loop-value : goal.invariant-loop-value
invariant-loop-value l = l.groups.items ≡ groups_in l.yielded
