use Rattle.hy_validate.specs.Filed.{AreFiled}
use Rattle.hy_validate.proofs.tree.Tree.build.Given as goal

-- the records so far are filed
abbrev pub invariant-loop-number : goal.invariant-loop-number
invariant-loop-number l = AreFiled l.records l.number l.keyed l.groups.items
