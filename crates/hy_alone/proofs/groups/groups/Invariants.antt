use Rattle.std.proofs.Common.{◌≡◌, map, take}
use Rattle.hy_meaning.specs.Totals.{group_at}
use Rattle.hy_alone.proofs.groups.groups.Given as goal

-- the groups of the values so far
abbrev pub invariant-loop-value : goal.invariant-loop-value
invariant-loop-value l = l.groups ≡ map (group_at l.key l.aggregate l.rows) (take l.value-index l.value-items)
