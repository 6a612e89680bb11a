use Rattle.std.proofs.Common.{◌++◌, List, ℕ, ap, sym, ◌∙◌}
use Rattle.std.proofs.lemmas.Result.{on_ok_weaker}
use Rattle.hy_render.proofs.PrintedRows.{plain_text}
use Rattle.hy_render.proofs.rows.print_inside.Goals as goal

pub returns-else-contains-clause-ok : goal.returns-else-contains-clause-ok
returns-else-contains-clause-ok c =
    on_ok_weaker c.put.result
    (λ e. e ∙ ap (λ (xs : List ℕ). c.args.out.now.items ++ xs) (sym (plain_text c.args.text.now (sym c.contains.ensures.value ∙ c.if-contains.false))))
    c.put.ensures.ok
