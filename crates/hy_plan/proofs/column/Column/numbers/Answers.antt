use Rattle.std.proofs.Common.{ℤ, List, length, map, take, ap, ◌∙◌, arith}
use Rattle.hy_value.specs.declared.Value.TheVariants.{Int}
use Rattle.hy_plan.proofs.Numbers.{first_numbers}
use Rattle.hy_plan.proofs.column.Column.numbers.Goals as goal

pub returns-then-len-numbers : goal.returns-then-len-numbers
returns-then-len-numbers c =
    ap (λ (ns : List ℤ). map Int (take c.args.len ns)) c.as_slice-numbers.ensures.value
    ∙ (first_numbers c.self.inside.numbers.items c.self.inside.nulls.items c.self.inside.others.items c.args.len (grind (arith, c.if-is_empty.ensures))
    (omega (arith, c.if-len-numbers.true, ap length c.as_slice-numbers.ensures.value))
    ∙ ap (take c.args.len) c.self.view_is)
