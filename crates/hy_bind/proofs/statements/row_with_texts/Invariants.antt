use Rattle.std.proofs.Common.{◌≡◌, take, map}
use Rattle.hy_bind.specs.Literals.{literal_value}
use Rattle.hy_bind.proofs.statements.row_with_texts.Given as goal

abbrev pub invariant-loop-literal : goal.invariant-loop-literal
invariant-loop-literal l = l.values.items ≡ map (literal_value l.scope.script.now) (take l.literal-index l.literals)
