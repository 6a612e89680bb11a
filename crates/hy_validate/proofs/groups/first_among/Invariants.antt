use Rattle.hy_validate.specs.TreeHits.{is_hit_number, Finds}
use Rattle.hy_validate.proofs.Earliness.{InFirst}
use Rattle.hy_validate.proofs.groups.first_among.Given as goal

-- the first record of the groups so far that the change hits
abbrev pub invariant-loop-group : goal.invariant-loop-group
invariant-loop-group l = Finds (is_hit_number l.records l.change) (InFirst l.groups l.group-index) l.first
