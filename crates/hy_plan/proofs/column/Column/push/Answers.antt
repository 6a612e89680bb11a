use Rattle.std.proofs.Common.{◌≡◌, ◌++◌, [], ◌∷◌, List, ap, sym, ◌∙◌, arith, rules, to_z, of_z, w64}
use Rattle.std.specs.Prelude.{ℤ}
use Rattle.hy_value.specs.declared.Value.TheVariants.{Int, Null}
use Rattle.hy_value.specs.Refs.{referred}
use Rattle.hy_plan.specs.Numbers.{numbered}
use Rattle.hy_plan.proofs.Numbers.{behind_none, numbers_more}
use Rattle.hy_plan.proofs.Results.{on_ok_then}
use Rattle.hy_plan.proofs.column.Column.push.Goals as goal

pub returns-in_ok-push-in-Int-clause-ok : goal.returns-in_ok-push-in-Int-clause-ok
returns-in_ok-push-in-Int-clause-ok c =
    let numbers = c.self.inside.numbers.items in
    let nulls = c.self.inside.nulls.items in
    let others = c.self.inside.others.items in
    let number = to_z w64 (of_z w64 c.in-Int.number) in
    let same : number ≡ c.in-Int.number = search rules in
    ap (λ (ns : List ℤ). numbered ns nulls ++ others) c.in_ok-push-in-Int.ensures.items
    ∙ (numbers_more numbers (number ∷ []) nulls others c.self.invariant (grind (arith, c.if-is_empty.ensures))
    ∙ (ap (λ values. values ++ Int number ∷ []) c.self.view_is ∙ ap (λ value. c.args.self.now ++ value ∷ []) (ap Int same ∙ ap referred (sym c.in-Int.is))))

pub returns-in-Null-clause-ok : goal.returns-in-Null-clause-ok
returns-in-Null-clause-ok c =
    let numbers = c.self.inside.numbers.items in
    let nulls = c.self.inside.nulls.items in
    let others = c.self.inside.others.items in
    on_ok_then c.push_null.result
    (λ more.
    ap (λ values. values ++ others) more
    ∙ (behind_none (numbered numbers nulls) (Null ∷ []) others (grind (arith, c.if-is_empty-2.ensures))
    ∙ (ap (λ values. values ++ Null ∷ []) c.self.view_is ∙ ap (λ value. c.args.self.now ++ value ∷ []) (ap referred (sym c.in-Null.is)))))
    c.push_null.ensures.ok
