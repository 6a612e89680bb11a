use Rattle.std.proofs.Common.{◌≡◌, ◌+◌, ◌<◌, ◌≤◌, ◌++◌, [], ◌∷◌, length, take, drop, ap, ◌∙◌, refl, arith}
use Rattle.std.specs.Prelude.{true, false}
use Rattle.std.proofs.lemmas.List.{drop_all, length-take, length-map, take-take}
use Rattle.hy_value.specs.Columns.{has_column}
use Rattle.hy_bound.specs.Projection.{projected, projected_from}
use Rattle.hy_plan.specs.Cells.{with_values, cells_of}
use Rattle.hy_plan.proofs.Cells.{values_more, firsts_left, within_values}
use Rattle.hy_plan.proofs.Projections.{all_taken, kept_next, next_is, passed_next}
use Rattle.hy_plan.proofs.Results.{on_err_always}
use Rattle.hy_plan.proofs.gathered.put_projected.Goals as goal
use Rattle.hy_plan.proofs.gathered.put_projected.Goals.{then-is_of_set+in_ok-put, else-is_of_set}

pub returns-in_err-put-clause-err : goal.returns-in_err-put-clause-err
returns-in_err-put-clause-err c =
    let row = c.args.row.now in
    let index = c.loop-index.index in
    let used = c.loop-index.used in
    let values = projected c.args.mask row in
    let has : has_column c.args.mask index ≡ true = cc (c.is_of_set.ensures, c.if-is_of_set.true) in
    let next = next_is values _ used c.index-row-index.result
    (c.loop-index.invariant.rest ∙ kept_next c.args.mask row index c.index-row-index.result c.loop-index-test.true c.index-row-index.is has) in
    let before = take used values in
    let few : length (cells_of before) ≤ length c.args.columns.now.items = omega (arith, length-map before (λ value. value ∷ []), length-take used values, c.requires.width) in
    let below : used < length c.args.columns.now.items = omega (arith, next.below, c.requires.width) in
    let within : used < length c.loop-index.columns.items = within_values c.args.len (cells_of before) c.args.columns.now.items c.loop-index.columns.items used c.loop-index.invariant.put few below in
    let whole : c.args.len ≤ c.args.len = omega arith in
    on_err_always c.from_residual.result
    (firsts_left c.args.len (cells_of before) c.args.columns.now.items c.loop-index.columns.items _ used c.index_mut.result.now c.put.new.self
    c.loop-index.invariant.put c.requires.reach within
    (ap (take c.args.len) c.in_err-put.ensures.err ∙ (take-take c.args.len c.args.len c.index_mut.result.now whole ∙ ap (take c.args.len) c.index_mut.ensures.value)) refl)

pub loop-index-preserved : goal.loop-index-preserved
loop-index-preserved c =
    let row = c.args.row.now in
    let index = c.loop-index.index in
    let used = c.loop-index.used in
    let value = c.index-row-index.result in
    let values = projected c.args.mask row in
    let rest = projected_from c.args.mask (index + 1) (drop (index + 1) row) in
    elim c.if-is_of_set.branch [
      | then-is_of_set+in_ok-put w ↦
          let has : has_column c.args.mask index ≡ true = cc (c.is_of_set.ensures, w.if-is_of_set.true) in
          let next = next_is values rest used value (c.loop-index.invariant.rest ∙ kept_next c.args.mask row index value c.loop-index-test.true c.index-row-index.is has) in
          rw (w.columns-is, w.used-is) (record {
            put = values_more (λ value. value ∷ []) c.args.len values c.args.columns.now.items c.loop-index.columns.items _ used value w.index_mut.result.now w.put.new.self
                next.below c.requires.width next.at c.loop-index.invariant.put
                (w.in_ok-put.ensures.ok ∙ (ap (λ value. take c.args.len w.index_mut.result.now ++ value ∷ []) w.refer.ensures
                ∙ ap (λ values. take c.args.len values ++ value ∷ []) w.index_mut.ensures.value)) refl;
            rest = next.behind;
          })
      | else-is_of_set w ↦
          let has : has_column c.args.mask index ≡ false = cc (c.is_of_set.ensures, w.if-is_of_set.false) in
          rw (w.columns-is, w.used-is) (record {
            put = c.loop-index.invariant.put;
            rest = c.loop-index.invariant.rest ∙ passed_next c.args.mask row index value c.loop-index-test.true c.index-row-index.is has;
          })
    ]

pub returns-clause-ok : goal.returns-clause-ok
returns-clause-ok c =
    let row = c.args.row.now in
    let none : drop c.loop-index.index row ≡ [] = drop_all c.loop-index.index row (omega (arith, c.loop-index-test.false)) in
    let done = c.loop-index.invariant.rest ∙ ap (projected_from c.args.mask c.loop-index.index) none in
    c.loop-index.invariant.put
    ∙ ap (λ values. with_values c.args.len (cells_of values) c.args.columns.now.items) (all_taken (projected c.args.mask row) c.loop-index.used done)
