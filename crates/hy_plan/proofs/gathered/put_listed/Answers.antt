use Rattle.std.proofs.Common.{◌≡◌, ◌<◌, ◌≤◌, ◌++◌, length, map, take, get_or, ap, ◌∙◌, refl, arith}
use Rattle.std.proofs.lemmas.List.{length-take, length-map, get_or_default}
use Rattle.hy_plan.specs.Placed.{values_picked}
use Rattle.hy_plan.proofs.Cells.{values_more, firsts_left, within_values, reach_behind}
use Rattle.hy_plan.proofs.Results.{on_err_always}
use Rattle.hy_plan.proofs.gathered.put_listed.Goals as goal

pub returns-in_err-put_listed-clause-err : goal.returns-in_err-put_listed-clause-err
returns-in_err-put_listed-clause-err g c =
    let picked = values_picked (g.S.PlacedRows.rows c.args.source.now) c.args.places.now in
    let before = take c.loop-index.index c.args.wanted.now in
    let few : length (map picked before) ≤ length c.args.columns.now.items = omega (arith, length-map before picked, length-take c.loop-index.index c.args.wanted.now, c.requires.width) in
    let below : c.loop-index.index < length c.args.columns.now.items = omega (arith, c.loop-index-test.true, c.requires.width) in
    let within : c.loop-index.index < length c.loop-index.columns.items = within_values c.args.len (map picked before) c.args.columns.now.items c.loop-index.columns.items c.loop-index.index c.loop-index.invariant few below in
    on_err_always c.from_residual.result
    (firsts_left c.args.len (map picked before) c.args.columns.now.items c.loop-index.columns.items _ c.loop-index.index c.index_mut.result.now c.put_listed.new.self
    c.loop-index.invariant c.requires.reach within (c.in_err-put_listed.ensures.err ∙ ap (take c.args.len) c.index_mut.ensures.value) refl)

pub put_listed-requires-clause-reach : goal.put_listed-requires-clause-reach
put_listed-requires-clause-reach g c =
    let picked = values_picked (g.S.PlacedRows.rows c.args.source.now) c.args.places.now in
    let before = take c.loop-index.index c.args.wanted.now in
    let few : length (map picked before) ≤ length c.args.columns.now.items = omega (arith, length-map before picked, length-take c.loop-index.index c.args.wanted.now, c.requires.width) in
    let below : c.loop-index.index < length c.args.columns.now.items = omega (arith, c.loop-index-test.true, c.requires.width) in
    let within : c.loop-index.index < length c.loop-index.columns.items = within_values c.args.len (map picked before) c.args.columns.now.items c.loop-index.columns.items c.loop-index.index c.loop-index.invariant few below in
    reach_behind c.args.len (map picked before) c.args.columns.now.items c.loop-index.columns.items c.loop-index.index c.index_mut.result.now c.loop-index.invariant c.requires.reach within c.index_mut.ensures.value

pub loop-index-preserved : goal.loop-index-preserved
loop-index-preserved g c =
    let picked = values_picked (g.S.PlacedRows.rows c.args.source.now) c.args.places.now in
    let wanted = c.args.wanted.now in
    let i = c.loop-index.index in
    let at : get_or wanted i 0 ≡ get_or wanted i (get_or wanted i 0) = get_or_default wanted i 0 (get_or wanted i 0) c.loop-index-test.true in
    values_more picked c.args.len wanted c.args.columns.now.items c.loop-index.columns.items _ i (get_or wanted i 0) c.index_mut.result.now c.put_listed.new.self
    c.loop-index-test.true c.requires.width at c.loop-index.invariant
    (c.in_ok-put_listed.ensures.ok ∙ ap (λ values. take c.args.len values ++ picked (get_or wanted i 0)) c.index_mut.ensures.value) refl
