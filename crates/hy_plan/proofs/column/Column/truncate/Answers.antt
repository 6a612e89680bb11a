use Rattle.std.proofs.Common.{◌≡◌, length, arith, ◌-◌, ◌++◌, take, ap, ◌∙◌}
use Rattle.hy_plan.specs.Numbers.{numbered}
use Rattle.hy_plan.proofs.Numbers.{take-column}
use Rattle.hy_plan.proofs.column.Column.truncate.Goals as goal

pub returns : goal.returns
returns c =
    let numbers = c.self.inside.numbers.items in
    let nulls = c.self.inside.nulls.items in
    let others = c.self.inside.others.items in
    let len : c.len.result ≡ length numbers = omega (arith, c.len.ensures) in
    ap (λ values. numbered values c.truncate-3.new.self.items ++ c.truncate.new.self.items) c.truncate-2.ensures.items
    ∙ (ap (λ values. numbered (take c.args.len numbers) values ++ c.truncate.new.self.items) c.truncate-3.ensures.items
    ∙ (ap (λ values. numbered (take c.args.len numbers) (take c.args.len nulls) ++ values) (c.truncate.ensures.items ∙ ap (λ n. take n others) (c.saturating_sub.ensures ∙ ap (λ n. c.args.len - n) len))
    ∙ (take-column c.args.len numbers nulls others ∙ ap (take c.args.len) c.self.view_is)))
