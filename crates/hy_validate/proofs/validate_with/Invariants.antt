use Rattle.std.proofs.Common.{◌≡◌, drop}
use Rattle.hy_validate.specs.Hits.{first_invalid}
use Rattle.hy_validate.proofs.validate_with.Given as goal

-- no entry so far has a hit
abbrev pub invariant-loop-entry : goal.invariant-loop-entry
invariant-loop-entry l = first_invalid l.tree (drop l.entry-index l.entries) ≡ first_invalid l.tree l.entries
