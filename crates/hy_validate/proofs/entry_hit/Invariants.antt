use Rattle.std.proofs.Common.{◌≡◌, drop}
use Rattle.hy_validate.specs.Hits.{hit_among}
use Rattle.hy_validate.proofs.entry_hit.Given as goal

-- no change so far has a hit
abbrev pub invariant-loop-change : goal.invariant-loop-change
invariant-loop-change l = hit_among l.tree l.entry.label (drop l.change-index l.change-items) ≡ hit_among l.tree l.entry.label l.entry.notes
