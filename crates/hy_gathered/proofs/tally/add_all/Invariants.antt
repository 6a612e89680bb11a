use Rattle.std.proofs.Common.{◌≡◌, ◌+◌, ◌≤◌}
use Rattle.hy_gathered.specs.Tally.{groups_in, merged, size_of}
use Rattle.hy_gathered.proofs.tally.add_all.Given as goal

-- what is added so far, and then the others, gives the whole
abbrev pub invariant-loop-value : goal.invariant-loop-value
invariant-loop-value l = record {
  whole : merged (groups_in l.totals.entries) (groups_in l.value-iterator) ≡ merged (groups_in l.fn.totals.entries) (groups_in l.others.entries);
  size : size_of (groups_in l.totals.entries) + size_of (groups_in l.value-iterator)
      ≤ size_of (groups_in l.fn.totals.entries) + size_of (groups_in l.others.entries);
}
