use Rattle.std.proofs.Common.{◌≡◌, ◌∙◌, length, ap, pos, arith}
use Rattle.std.specs.Prelude.{true}
use Rattle.std.proofs.lemmas.List.{length_push}
use Rattle.hy_plan.proofs.Numbers.{null_more}
use Rattle.hy_plan.specs.Numbers.{numbered}
use Rattle.hy_plan.proofs.Results.{by_result, on_err_both, on_ok_both}
use Rattle.hy_plan.proofs.column.push_null.Goals as goal

pub returns-clause-few : goal.returns-clause-few
returns-clause-few c =
    let numbers = c.args.numbers.now.items in
    let told = c.tell_all.new.nulls.items in
    let even : length told ≡ length numbers = c.in_ok-tell_all.ensures.all in
    by_result c.push_number.result
    (on_ok_both c.push_number.result (λ put marked. omega (arith, even, ap length put, ap length marked, length_push numbers (pos 0), length_push told true))
    c.push_number.ensures.numbers c.push_number.ensures.nulls)
    (on_err_both c.push_number.result (λ put marked. omega (arith, even, ap length put, ap length marked))
    c.push_number.ensures.same_numbers c.push_number.ensures.same_nulls)

pub returns-clause-ok : goal.returns-clause-ok
returns-clause-ok c =
    on_ok_both c.push_number.result
    (λ put marked. null_more c.args.numbers.now.items _ c.args.nulls.now.items c.tell_all.new.nulls.items _ c.tell_all.ensures.same c.in_ok-tell_all.ensures.all put marked)
    c.push_number.ensures.numbers c.push_number.ensures.nulls

pub returns-clause-err : goal.returns-clause-err
returns-clause-err c =
    on_err_both c.push_number.result (λ put marked. (λ i. numbered (put i) (marked i)) ∙ c.tell_all.ensures.same)
    c.push_number.ensures.same_numbers c.push_number.ensures.same_nulls
