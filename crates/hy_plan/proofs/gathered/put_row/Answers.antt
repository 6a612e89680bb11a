use Rattle.std.proofs.Common.{◌<◌, ◌≤◌, ◌++◌, [], ◌∷◌, length, take, ap, ◌∙◌, refl, arith}
use Rattle.std.proofs.lemmas.List.{length-take, length-map, take-take}
use Rattle.hy_plan.specs.Cells.{cells_of}
use Rattle.hy_plan.proofs.Cells.{values_more, firsts_left, within_values}
use Rattle.hy_plan.proofs.Results.{on_err_always}
use Rattle.hy_plan.proofs.gathered.put_row.Goals as goal

pub returns-in_err-put-clause-err : goal.returns-in_err-put-clause-err
returns-in_err-put-clause-err c =
    let before = take c.loop-index.index c.args.row.now in
    let few : length (cells_of before) ≤ length c.args.columns.now.items = omega (arith, length-map before (λ value. value ∷ []), length-take c.loop-index.index c.args.row.now, c.requires.width) in
    let below : c.loop-index.index < length c.args.columns.now.items = omega (arith, c.loop-index-test.true, c.requires.width) in
    let within : c.loop-index.index < length c.loop-index.columns.items = within_values c.args.len (cells_of before) c.args.columns.now.items c.loop-index.columns.items c.loop-index.index c.loop-index.invariant few below in
    let whole : c.args.len ≤ c.args.len = omega arith in
    on_err_always c.from_residual.result
    (firsts_left c.args.len (cells_of before) c.args.columns.now.items c.loop-index.columns.items _ c.loop-index.index c.index_mut.result.now c.put.new.self
    c.loop-index.invariant c.requires.reach within
    (ap (take c.args.len) c.in_err-put.ensures.err ∙ (take-take c.args.len c.args.len c.index_mut.result.now whole ∙ ap (take c.args.len) c.index_mut.ensures.value)) refl)

pub loop-index-preserved : goal.loop-index-preserved
loop-index-preserved c =
    values_more (λ value. value ∷ []) c.args.len c.args.row.now c.args.columns.now.items c.loop-index.columns.items _ c.loop-index.index c.index-row-index.result c.index_mut.result.now c.put.new.self
    c.loop-index-test.true c.requires.width c.index-row-index.is c.loop-index.invariant
    (c.in_ok-put.ensures.ok ∙ (ap (λ value. take c.args.len c.index_mut.result.now ++ value ∷ []) c.refer.ensures
    ∙ ap (λ values. take c.args.len values ++ c.index-row-index.result ∷ []) c.index_mut.ensures.value)) refl
