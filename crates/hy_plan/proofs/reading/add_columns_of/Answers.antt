use Rattle.std.proofs.Common.{rules, ◌≡◌, ℕ, List, [], ◌∷◌, ◌++◌, map, ap, sym, ◌∙◌, append_assoc}
use Rattle.std.specs.List.{range_with_len}
use Rattle.hy_value.specs.declared.Value.{Value}
use Rattle.hy_bound.specs.Predicate.{column_of}
use Rattle.hy_plan.proofs.Values.{one_column_more}
use Rattle.hy_plan.proofs.reading.add_columns_of.Goals as goal

pub loop-column-preserved : goal.loop-column-preserved
loop-column-preserved c =
    let rows = c.args.rows.now in
    let over : ℕ → List Value = λ column. map (λ row. column_of row column) rows in
    let k = c.loop-column.column in
    let put : c.push.new.self.items ≡ c.loop-column.columns.items ++ over k ∷ [] = search rules in
    put ∙ (ap (λ cs. cs ++ over k ∷ []) c.loop-column.invariant
    ∙ (append_assoc c.args.columns.now.items (map over (range_with_len 0 k)) (over k ∷ []) ∙ ap (λ cs. c.args.columns.now.items ++ cs) (sym (one_column_more over k))))
