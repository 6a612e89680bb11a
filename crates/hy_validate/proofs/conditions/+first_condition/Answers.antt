use Rattle.std.proofs.Common.{rules, ◌≡◌, ◌∙◌, ap}
use Rattle.hy_bound.specs.Condition.{And, True}
use Rattle.hy_validate.specs.FirstConditions.{first_condition_of}
use Rattle.hy_validate.proofs.FirstOnes.{first_of_right}
use Rattle.hy_validate.proofs.conditions.+first_condition.Goals as goal

pub returns-then-is_always : goal.returns-then-is_always
returns-then-is_always t c =
    let none : first_condition_of c.in-And.left.now ≡ True = search rules in
    let right : c.first_condition.result.now ≡ first_condition_of c.in-And.right.now = search rules in
    let is : And c.in-And.left.now c.in-And.right.now ≡ c.args.pred.now = search rules in
    right ∙ (first_of_right c.in-And.left.now c.in-And.right.now none ∙ ap first_condition_of is)
