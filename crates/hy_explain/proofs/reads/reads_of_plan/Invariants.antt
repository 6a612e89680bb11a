use Rattle.std.proofs.Common.{◌≡◌, ◌++◌, map, drop}
use Rattle.hy_explain.specs.Reads.{read_of_part}
use Rattle.hy_explain.proofs.reads.reads_of_plan.Given as goal

-- the records so far, and those of what is left
abbrev pub invariant-loop-part : goal.invariant-loop-part
invariant-loop-part l = l.reads ++ map (read_of_part l.number) (drop l.part-index l.plan.parts) ≡ map (read_of_part l.number) l.plan.parts
