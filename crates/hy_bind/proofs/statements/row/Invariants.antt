use Rattle.std.proofs.Common.{◌≡◌, ◌≤◌, length, take, map}
use Rattle.hy_bind.specs.Literals.{literal_value}
use Rattle.hy_bind.proofs.statements.row.Given as goal

-- the values so far are those of the literals so far, and there is room for all
abbrev pub invariant-loop-literal : goal.invariant-loop-literal
invariant-loop-literal l = (l.row.values ≡ map (literal_value l.scope.script.now) (take l.literal-index l.literals)) × (length l.literals ≤ l.row.room)
